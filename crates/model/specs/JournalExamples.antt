-- Examples of the claims journal (02, Job 3), of our own.
use Rattle.std.specs.Prelude.{ℕ, ◌+◌, ◌-◌, ◌^◌, ◌≡◌, refl, List, [], ◌∷◌, ◌++◌, ℤ, pos, replicate}
use Rattle.integers.specs.Sums.{sum}
use Rattle.model.specs.Lists.{tabulate, chained, total, count}
use Rattle.model.specs.Records.{triangle, least_first, signed, value_at, in_range}
use Rattle.model.specs.Questions.{first_no, q1}
use Rattle.model.specs.SetFile.{bytes}
use Rattle.model.specs.Journal.{transaction_at, q16, q17, q18, of_booking, of_transaction, booked, no_tally, tally_after, q16_length, of_transactions, is_entry, reports, payments}
use Rattle.model.specs.Calls.{replay_refusal, replay_tally}
use Rattle.model.specs.declared.JournalTally.{JournalTally}

-- the bytes of a transaction, s being its unused byte and x the word of its amount
unfoldable pub entry : ℕ → ℕ → ℕ → ℕ → ℕ → ℕ → List ℕ
entry claim kind i y s x = bytes 4 claim ++ (kind ∷ i ∷ y ∷ s ∷ []) ++ bytes 8 x

-- a claim of accident year i, reported in calendar year y, and a payment
unfoldable pub report : ℕ → ℕ → ℕ → List ℕ
report claim i y = entry claim 0 i y 0 0

unfoldable pub pay : ℕ → ℕ → ℕ → ℕ → List ℕ
pay claim i y x = entry claim 1 i y 0 x

-- three claims of two accident years, with m = 3
unfoldable pub journal : List ℕ
journal =
    report 7 1 1 ++ report 4095 1 2 ++ pay 7 1 2 500 ++ report 256 2 2 ++ pay 4095 1 3 40 ++ pay 256 2 3 9 ++ pay 7 1 3 60 ++ pay 256 2 3 0

-- a triangle of 400 places: a, b, c at the front of year 1, and d, e, f at that of year 2
unfoldable pub rows : ℕ → ℕ → ℕ → ℕ → ℕ → ℕ → List ℤ
rows a b c d e f = (pos a ∷ pos b ∷ pos c ∷ []) ++ replicate 17 (pos 0) ++ (pos d ∷ pos e ∷ pos f ∷ []) ++ replicate 377 (pos 0)

-- a tally that holds something already
unfoldable pub handed : JournalTally
handed = record { claims = replicate 4096 3; counts = replicate 400 (pos 2); paid = replicate 400 (pos 1); last = 3 }

unfoldable pub opened_journal : ℕ
unfolding
    sum tabulate chained total count triangle least_first signed value_at in_range first_no q1 bytes
    transaction_at q16 q17 q18 of_booking of_transaction booked no_tally tally_after q16_length of_transactions is_entry reports payments
    replay_refusal replay_tally entry report pay journal rows handed
opened_journal = 0

-- its cells over the whole list
pub by_cell :
    (reports journal 1 1 ≡ pos 1) × (payments journal 1 2 ≡ pos 100)
    × (triangle 3 (reports journal) ≡ rows 1 1 0 1 0 0) × (triangle 3 (payments journal) ≡ rows 0 500 100 0 9 0)
unfolding opened_journal
by_cell = (refl, refl, refl, refl)

-- a journal of nothing clears the tally, a refused one leaves it
pub cleared : ((replay_tally 2 [] handed).last ≡ 0) × (replay_tally 2 [] handed ≡ no_tally) × (replay_tally 2 (pay 7 1 1 5) handed ≡ handed)
unfolding opened_journal
cleared = (refl, refl, refl)

-- 16: each field's ends
pub fields :
    (replay_refusal 2 (report 4095 2 2) ≡ 0) × (replay_refusal 2 (report 4096 2 2) ≡ 16) × (replay_refusal 2 (entry 7 2 1 1 0 0) ≡ 16)
    × (replay_refusal 2 (report 7 0 1) ≡ 16) × (replay_refusal 2 (report 7 3 3) ≡ 16) × (replay_refusal 2 (report 7 1 3) ≡ 16)
    × (replay_refusal 2 (report 7 2 1) ≡ 16) × (replay_refusal 2 (entry 7 0 1 1 1 0) ≡ 16) × (replay_refusal 2 (entry 7 0 1 1 0 1) ≡ 16)
    × (replay_refusal 2 (report 7 1 1 ++ pay 7 1 1 (10 ^ 10)) ≡ 0) × (replay_refusal 2 (report 7 1 1 ++ pay 7 1 1 (10 ^ 10 + 1)) ≡ 16)
    × (replay_refusal 2 (report 7 1 1 ++ pay 7 1 1 (2 ^ 64 - 1)) ≡ 16)
unfolding opened_journal
fields = (refl, refl, refl, refl, refl, refl, refl, refl, refl, refl, refl, refl)

-- the first bad transaction rules, and in it the lowest number
pub order :
    (replay_refusal 2 (entry 7 1 1 1 1 5) ≡ 16) × (replay_refusal 2 (report 7 1 2 ++ pay 8 1 1 5) ≡ 17)
    × (replay_refusal 2 (report 7 1 2 ++ report 8 1 1 ++ report 4096 1 1) ≡ 18) × (replay_refusal 2 (report 7 1 2 ++ pay 8 1 2 5 ++ report 4096 1 1) ≡ 17)
unfolding opened_journal
order = (refl, refl, refl, refl)
