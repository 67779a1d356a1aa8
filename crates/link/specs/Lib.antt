-- The link between one cell's outbox and the gateway: what may happen on it.
pub mod Lists
pub mod Run
pub mod Site
