-- The definitions that the contracts cite: a product in digits, a capped number, and numbers that
-- stand evenly apart.
pub mod Wide
pub mod Capped
pub mod Spaced
