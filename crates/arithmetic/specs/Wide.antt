-- A product of two numbers below 2^48, in digits of 16 bits but for the highest.
use Rattle.std.specs.Prelude.{◌≡◌, ℕ, ◌+◌, ◌*◌, ◌<◌}

-- n is top × 2^32 + mid × 2^16 + low
abbrev pub Product : ℕ → ℕ → ℕ → ℕ → Type 0
Product n top mid low = ((top * 65536 + mid) * 65536 + low ≡ n) × (mid < 65536) × (low < 65536)
