-- More examples of the claims journal (02, Job 3), of our own. Assumes nothing.
use Rattle.std.specs.Prelude.{◌-◌, ◌^◌, ◌≡◌, refl, true, false, [], ◌∷◌, ◌++◌, pos, get_or, replicate}
use Rattle.model.specs.Questions.{first_no}
use Rattle.model.specs.Journal.{transaction_at, q16_length}
use Rattle.model.specs.Calls.{of_step, replay_refusal, replay_tally}
use Rattle.model.specs.JournalExamples.{report, pay, journal, rows, handed, opened_journal}
use Rattle.model.specs.declared.JournalTally.{JournalTally}

-- the tally of the journal, from zeros: claims 7 and 4095 are of year 1, 256 of year 2
pub replayed :
    (replay_refusal 3 journal ≡ 0) × ((replay_tally 3 journal handed).counts ≡ rows 1 1 0 1 0 0) × ((replay_tally 3 journal handed).paid ≡ rows 0 500 100 0 9 0)
    × ((replay_tally 3 journal handed).last ≡ 3) × (get_or (replay_tally 3 journal handed).claims 7 0 ≡ 1)
    × (get_or (replay_tally 3 journal handed).claims 256 0 ≡ 2) × (get_or (replay_tally 3 journal handed).claims 8 0 ≡ 0)
unfolding opened_journal
replayed = (refl, refl, refl, refl, refl, refl, refl)

-- 1 comes before 16 of the length, which comes before the transactions
pub frames : (replay_refusal 21 (0 ∷ []) ≡ 1) × (replay_refusal 2 (0 ∷ []) ≡ 16) × (replay_refusal 2 (pay 7 1 1 5 ++ (0 ∷ [])) ≡ 16)
unfolding opened_journal
frames = (refl, refl, refl)

-- 16: 4096 transactions and one more
pub most : (q16_length (replicate 65536 0) ≡ true) × (q16_length (replicate 65552 0) ≡ false)
unfolding opened_journal
most = (refl, refl)

-- 17: reported twice, also under another year; paid unreported, 0 too; paid under another year
pub claims :
    (replay_refusal 2 (report 7 1 1 ++ report 7 1 2) ≡ 17) × (replay_refusal 2 (report 7 1 1 ++ report 7 2 2) ≡ 17)
    × (replay_refusal 2 (report 7 1 1 ++ pay 8 1 1 0) ≡ 17) × (replay_refusal 2 (report 7 1 1 ++ pay 7 2 2 5) ≡ 17)
unfolding opened_journal
claims = (refl, refl, refl, refl)

-- 18: a calendar year below the last; a cell that is full, and one unit more
pub bookings :
    (replay_refusal 2 (report 7 1 2 ++ report 8 1 1) ≡ 18) × (replay_refusal 2 (report 7 1 1 ++ pay 7 1 1 (10 ^ 10) ++ pay 7 1 1 0) ≡ 0)
    × (replay_refusal 2 (report 7 1 1 ++ pay 7 1 1 (10 ^ 10) ++ pay 7 1 1 1) ≡ 18)
unfolding opened_journal
bookings = (refl, refl, refl)

-- one with cells at the end of the signed 64-bit numbers
unfoldable pub overfull : JournalTally
overfull = record { claims = replicate 4096 3; counts = replicate 400 (pos 0); paid = replicate 400 (pos (2 ^ 63 - 1)); last = 3 }

-- one transaction: 1 before 16, and a tally that no journal comes to, whose cells are full already
pub steps :
    (first_no (of_step 21 handed (transaction_at (report 4096 1 1) 0)) ≡ 1) × (first_no (of_step 3 handed (transaction_at (pay 7 3 3 1) 0)) ≡ 0)
    × (first_no (of_step 3 overfull (transaction_at (pay 7 3 3 1) 0)) ≡ 18)
unfolding opened_journal overfull
steps = (refl, refl, refl)
