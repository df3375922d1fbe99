-- Examples of closing pages (02, Job 1). Assumes nothing.
use Rattle.std.specs.Prelude.{◌≡◌, refl, [], ◌∷◌, ◌++◌, replicate}
use Rattle.model.specs.Calls.{page_refusal, page_output}
use Rattle.model.specs.Further.{K}
use Rattle.model.specs.PageExamples.{page_k, late_file, page_late, opened_page}

-- into just the room that a page needs, and into two bytes more, which stay
pub pages : (page_output 2 late_file 0 1 (replicate 272 7) ≡ page_late) × (page_output 2 K 0 1 (replicate 274 7) ≡ page_k ++ (7 ∷ 7 ∷ []))
unfolding opened_page
pages = (refl, refl)

-- 15: room for all but one byte, which stay
pub short_page : (page_refusal 2 K 0 1 271 ≡ 15) × (page_output 2 K 0 1 (replicate 271 7) ≡ replicate 271 7)
unfolding opened_page
short_page = (refl, refl)
