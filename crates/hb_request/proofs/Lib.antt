pub mod WordOf
pub mod PlainRequest
pub mod RequestText
