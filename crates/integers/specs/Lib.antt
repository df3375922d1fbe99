-- Laws of whole numbers. Parts: ℤ by two naturals. Ring: its laws. Solver: identities. Linear,
-- Monomials: orders. Order, Absolute, Sums: laws by name.
pub mod Parts
pub mod Ring
pub mod Solver
pub mod Linear
pub mod Monomials
pub mod Order
pub mod Sums
pub mod Absolute
