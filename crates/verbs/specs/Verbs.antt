-- Which call of the model each verb is. Assumes nothing.
use Rattle.kernel.specs.Calls as Calls
use Rattle.kernel.specs.Calls.{tick, create_hard, create_nrt, activate, sleep, cycle, end, kill, new_semaphore, delete, wait, signal}
use Rattle.verbs.specs.declared.Verb.{Verb}
use Rattle.verbs.specs.declared.Verb.TheVariants.{Tick, Hard, Nrt, Activate, Sleep, Cycle, End, Kill, Newsem, Delsem, Wait, Signal}

-- The model's verb. There the number of a task or a semaphore is a plain number.
abbrev pub verb_of : Verb → Calls.Verb
verb_of Tick = tick
verb_of (Hard p c) = create_hard p c
verb_of (Nrt p) = create_nrt p
verb_of (Activate n) = activate n.0
verb_of Sleep = sleep
verb_of Cycle = cycle
verb_of End = end
verb_of (Kill n) = kill n.0
verb_of (Newsem n) = new_semaphore n
verb_of (Delsem n) = delete n.0
verb_of (Wait n) = wait n.0
verb_of (Signal n) = signal n.0
