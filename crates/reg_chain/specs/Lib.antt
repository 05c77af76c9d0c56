pub mod Chain
pub mod MemoryChain
pub mod MemoryState
