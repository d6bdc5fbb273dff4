-- Words and kernels: sound words are determined by the kernel that is seen in them, every good kernel has its words, and so has the fresh one.
pub mod Ranges
pub mod Determined
pub mod Shown
pub mod Width
pub mod Fresh
