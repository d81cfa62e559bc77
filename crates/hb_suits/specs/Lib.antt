pub mod Variants
pub mod VariantNames
