-- Laws of lists that are written place by place. Assumes nothing.
use Rattle.std.specs.Prelude.{◌≡◌, cond, List, ℕ, ◌<◌, eqb, length, get_or, set}
use Rattle.std.proofs.Common.{sym, subst, eqb-true, get_or-set_same, get_or-set_other}
use Rattle.std.proofs.lemmas.Bool.{eqb-false}
use Rattle.model.specs.Tests.{by_test}

-- what is read at j after a write at i
pub get_d_set : {A : Type 0} (l : List A) (i j : ℕ) (v d : A) → i < length l → get_or (set l i v) j d ≡ cond (eqb i j) v (get_or l j d)
get_d_set l i j v d h =
    by_test (eqb i j)
    (λ e. rw e (subst (λ (n : ℕ). get_or (set l i v) n d ≡ v) (eqb-true i j e) (get_or-set_same l i v d h)))
    (λ e. rw e (get_or-set_other l i j v d (λ q. eqb-false i j e (sym q))))
