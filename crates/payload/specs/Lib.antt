pub mod Content
pub mod Valid
pub mod Payload
pub mod Count
pub mod Limit
pub mod Written
