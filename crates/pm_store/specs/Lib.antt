pub mod Examples
pub mod FileWords
pub mod Files
pub mod MemSink
pub mod MemSource
pub mod MemStore
pub mod Outside
