mod ValueRows
mod ColumnSums
mod WholeQuotients
mod CommonDuals
pub mod Shown
mod Cones
mod Places
mod Slacks
mod Senses
mod Examples
mod WholeRows
