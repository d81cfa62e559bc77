pub mod Store
pub mod StoreTables
pub mod StoreSteps
pub mod Within
pub mod Rows
pub mod SeatIds
pub mod Stages
pub mod StoreFiles
