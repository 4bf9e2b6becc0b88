pub mod Lists
pub mod Plain
pub mod PlainEvidence
pub mod EvidenceExamples
pub mod WholeFiles
pub mod Members
mod StoredKeys
pub mod Ascending
pub mod EndOfLine
pub mod Scanned
pub mod Compact
pub mod Examples
pub mod FileExamples
