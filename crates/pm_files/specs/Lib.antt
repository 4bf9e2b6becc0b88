pub mod ValueJson
pub mod EvidenceJson
pub mod EvidenceExamples
pub mod Files
pub mod Views
pub mod Laws
pub mod Examples
pub mod FileExamples
