-- What the functions of the program say of how they ended. Assumes nothing.
use Rattle.std.specs.Prelude.{◌≡◌, List, ℕ, ◌≤◌, length, take, Result, Err, IfOk, MatchResult}
use Rattle.model.specs.Calls.{closing_text}

-- the bytes that were read lie within the buffer, which keeps its length
pub record Read {E : Type 0} (r : Result ℕ E) (before after : List ℕ) : Type 0 where
  pub within : IfOk r (λ k. k ≤ length after)
  pub same : length after ≡ length before

-- as many bytes were written as the text has
abbrev pub WholeOf : {E : Type 0} → Result ℕ E → List ℕ → Type 0
WholeOf r text = IfOk r (λ k. k ≡ length text)

-- n bytes were read into a buffer, and their text was written; where they fill the buffer, it is
-- the text of every input that starts with them
pub record AnsweredTo {E : Type 0} (r : Result ℕ E) (buffer : List ℕ) (n : ℕ) : Type 0 where
  pub written : WholeOf r (closing_text (take n buffer))
  pub started : length buffer ≤ n → (s : List ℕ) → take (length buffer) s ≡ buffer → WholeOf r (closing_text s)

-- the same of how reading ended: an error of a read is handed on
abbrev pub Answered : {E : Type 0} → Result ℕ E → List ℕ → Result ℕ E → Type 0
Answered r buffer read = MatchResult read (AnsweredTo r buffer) (λ e. r ≡ Err e)
