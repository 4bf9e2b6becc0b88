pub mod CostOrder
