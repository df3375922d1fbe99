-- Laws of the closing page of a file: its refusal question by question, and its contract. Assumes
-- nothing.
use Rattle.std.specs.Prelude.{◌≡◌, List, [], ◌∷◌, ℕ, ◌*◌, ◌≤◌, ◌<◌, ℤ, length, take, drop}
use Rattle.std.proofs.Math.Path.{sym}
use Rattle.std.proofs.Common.{◌∙◌, le-leb, take_at}
use Rattle.std.proofs.Math.Nat.{zero-add}
use Rattle.std.proofs.lemmas.Bool.{lt-leb}
use Rattle.model.specs.Records.{set_of}
use Rattle.model.specs.Delays.{delays_of}
use Rattle.model.specs.CellsLaws.{size_most}
use Rattle.model.specs.Overlay.{overlay}
use Rattle.model.specs.Questions.{q6, q15, of_forecast}
use Rattle.model.specs.Calendar.{tally_of}
use Rattle.model.specs.Page.{page_text}
use Rattle.model.specs.Calls.{zeros, forecast_refusal, forecast_output, file_tally, file_text, page_refusal, file_page, page_output}
use Rattle.model.specs.CallsLaws as CallsLaws
use Rattle.model.specs.CallsLaws.{settings_refusal, settings_so, if_refused}
use Rattle.model.specs.declared.TriangleSet.{TriangleSet}
use Rattle.triangles.specs.Order.{SameRecords}
use Rattle.triangles.specs.Lines.{SameButLine, order_alike, call_alike}
use Rattle.triangles.specs.CallsLines.{forecast_unseen, output_alike}
use Rattle.chain_ladder.specs.Accepted.{valid_set}
use Rattle.chain_ladder.specs.Valid.{few}
use Rattle.set_forecast.specs.SetForecast.{Answered, set_refusal}
use Rattle.forecast.specs.FileLaws as FileLaws
use Rattle.forecast.specs.SmallEntries.{file_small, set_number, set_accepted, set_forecast}
use Rattle.tally.specs.Printable.{Printable, small_printable}
use Rattle.page_text.specs.PageLaws.{page_length}
use Rattle.calendar.specs.Respond.{text_accepted}
use Rattle.page.specs.PageReads.{PageReads}
use Rattle.page.specs.PageReadsLaws.{tally_reads}

module _ (m : ℕ) (f : List ℕ) (method basis room : ℕ) where
  abbrev s : TriangleSet
  s = set_of m f

  abbrev settings : ℕ
  settings = settings_refusal m f method basis

  abbrev refusal : ℕ
  refusal = page_refusal m f method basis room

  -- ---- the refusal
  pub by_settings : (settings ≡ 0 → ⊥) → refusal ≡ settings
  unfolding page_refusal
  by_settings = CallsLaws.by_settings m f method basis 14 (q15 m room) (of_forecast m s (delays_of m s) method)

  module _ (passed : settings ≡ 0) where
    pub by_room : room < 136 * m → refusal ≡ 15
    unfolding page_refusal q15
    by_room h = CallsLaws.no_own m f method basis 14 (q15 m room) (of_forecast m s (delays_of m s) method) passed (lt-leb (136 * m) room h)

    pub by_set : 136 * m ≤ room → refusal ≡ set_refusal m s method
    unfolding page_refusal q15 set_refusal
    by_set h = CallsLaws.to_set m f method basis 14 (q15 m room) (of_forecast m s (delays_of m s) method) passed (le-leb (136 * m) room h)

  -- what is accepted, `closing` accepts
  pub page_forecast : refusal ≡ 0 → forecast_refusal m f method basis 1560 ≡ 0
  unfolding page_refusal set_refusal
  page_forecast z =
      let a = CallsLaws.call_so m f method basis 14 (q15 m room) (of_forecast m s (delays_of m s) method) z in
      let v = valid_set m f (settings_so m f method basis a.0).0 in
      FileLaws.accepted m f method basis (zeros 1560) a.0 (size_most m (few m s v)) a.2

-- ---- the tally of a file that `closing` accepts
module _ (m : ℕ) (f : List ℕ) (method basis : ℕ) (accepted : forecast_refusal m f method basis 1560 ≡ 0) where
  sized : (2 ≤ m) × (m ≤ 20)
  sized = let a = file_small m f method basis (zeros 1560) accepted in (a.0, a.1)

  pub file_printable : Printable m (file_tally m f method basis)
  unfolding file_tally
  file_printable = let a = file_small m f method basis (zeros 1560) accepted in small_printable m (forecast_output m f method basis (zeros 1560)) a.1 a.3

  file_page_length : length (file_page m f method basis) ≡ 136 * m
  unfolding file_page
  file_page_length = page_length m (file_tally m f method basis) sized.0 sized.1 file_printable

-- ---- the contract: the refusal number n, and the lent page before and after
module _ (m : ℕ) (f : List ℕ) (method basis : ℕ) (before : List ℕ) where
  abbrev Paged : ℕ → List ℕ → Type 0
  Paged n after = (n ≡ page_refusal m f method basis (length before)) × (after ≡ page_output m f method basis before)

  pub page_refused : {n : ℕ} → (n ≡ 0 → ⊥) → page_refusal m f method basis (length before) ≡ n → Paged n before
  unfolding page_output
  page_refused o e = (sym e, sym (if_refused _ _ _ (λ z. o (sym e ∙ z))))

  -- what the forecast of the file's set t answered and left in `out`
  module _ (passed : settings_refusal m f method basis ≡ 0) (room : 136 * m ≤ length before) {t : TriangleSet} (is : t ≡ set_of m f)
      {n : ℕ} {left lefts out : List ℤ} (made : Answered (set_refusal m t method) m t (delays_of m t) method basis n left lefts (zeros 1560) out) where
    answered : n ≡ page_refusal m f method basis (length before)
    answered = set_number m f method basis passed is made ∙ sym (by_set m f method basis (length before) passed room)

    pub set_refused : (n ≡ 0 → ⊥) → Paged n before
    set_refused o = page_refused o (sym answered)

    module _ (z : n ≡ 0) where
      accepted : forecast_refusal m f method basis 1560 ≡ 0
      accepted = set_accepted m f method basis passed is made z

      is_forecast : out ≡ forecast_output m f method basis (zeros 1560)
      is_forecast = set_forecast m f method basis passed is made z

      pub forecast_printable : Printable m (tally_of m out)
      unfolding file_tally
      forecast_printable = rw is_forecast (file_printable m f method basis accepted)

      pub page_written : {after : List ℕ} → after ≡ overlay before 0 (page_text m (tally_of m out)) → Paged 0 after
      unfolding page_output file_page file_tally overlay
      page_written e =
          let a = sym answered ∙ z in
          (sym a, e ∙ rw (is_forecast, zero-add, a, file_page_length m f method basis accepted))

-- ---- what is read of the page of an accepted file: the first 136 × m bytes of the lent page show
-- what `closing` prints for the file
pub page_reads : (m : ℕ) (f : List ℕ) (method basis : ℕ) (before : List ℕ) → page_refusal m f method basis (length before) ≡ 0
    → PageReads m (file_tally m f method basis) (take (136 * m) (page_output m f method basis before)) (file_text m f method basis)
unfolding page_output file_page
page_reads m f method basis before z =
    let a = page_forecast m f method basis (length before) z in
    let s = sized m f method basis a in
    rw (z, take_at (file_page m f method basis) (drop (136 * m) before) (136 * m) (file_page_length m f method basis a), text_accepted m f method basis a)
    (tally_reads m (file_tally m f method basis) s.0 s.1 (file_printable m f method basis a))

-- ---- neither the line (02, Job 7) nor the order of the records changes anything
module _ {m : ℕ} {f g : List ℕ} (alike : SameButLine m f g) (method basis : ℕ) where
  pub page_refusal_alike : (room : ℕ) → page_refusal m f method basis room ≡ page_refusal m g method basis room
  unfolding page_refusal
  page_refusal_alike room =
      call_alike alike (λ has. (6, q6 has method basis) ∷ (15, q15 m room) ∷ []) (λ s. of_forecast m s (delays_of m s) method) (forecast_unseen m method)

  pub page_alike : (before : List ℕ) → page_output m f method basis before ≡ page_output m g method basis before
  unfolding page_output file_page file_tally
  page_alike before = rw (page_refusal_alike (length before), output_alike alike method basis (zeros 1560))

module _ (f g : List ℕ) (same : SameRecords f g) (m method basis : ℕ) where
  pub page_refusal_order : (room : ℕ) → page_refusal m f method basis room ≡ page_refusal m g method basis room
  page_refusal_order = page_refusal_alike (order_alike f g same m) method basis

  pub page_order : (before : List ℕ) → page_output m f method basis before ≡ page_output m g method basis before
  page_order = page_alike (order_alike f g same m) method basis
