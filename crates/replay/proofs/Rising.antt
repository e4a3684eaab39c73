-- Where the calls rise, the place of a call has all that it gave. Assumes nothing.
use Rattle.std.proofs.Common.{◌≡◌, ℕ, zero, suc, ◌-◌, ◌<◌, ◌≤◌, ◌≢◌, Bool, true, false, cond, eqb, List, [], ◌∷◌, ◌++◌, length, get_or, Some, None, Ok, Err, Bor, slice_get, sym, ap, refl, arith}
use Rattle.std.specs.Bool.{then_some}
use Rattle.std.specs.List.{All}
use Rattle.std.specs.Option.{option_map}
use Rattle.std.specs.List.Sorted.{IsSearchInRange, IsBinarySearchResult, IsNonDecreasingBy}
use Rattle.std.specs.Ordering.{nat_cmp, ordering_index}
use Rattle.std.proofs.lemmas.Cmp.{ranked}
use Rattle.std.proofs.lemmas.Option.{get_or_from_slice_get}
use Rattle.std.proofs.lemmas.Bool.Decides.{nat_tests}
use Rattle.std.proofs.lemmas.Grind.{common_steps}
use Rattle.replay.specs.Gifts.{Rises, given}
use Rattle.replay.specs.declared.history.Gift.{Gift}

module _ {T : Type 0} where
  abbrev call_at : List (Gift T) → ℕ → Gift T → ℕ
  call_at gs i d = (get_or gs i d).call

  -- a call that no gift has gave nothing
  given_absent : (gs : List (Gift T)) (call key : ℕ) → ((j : ℕ) (d : Gift T) → j < length gs → call_at gs j d ≢ call) → given gs call key ≡ None
  given_absent [] call key none = refl
  given_absent (g ∷ gs) call key none = grind (arith, nat_tests, none 0 g (omega arith), given_absent gs call key (λ j d lt. none (suc j) d (omega arith)))

  -- where one gift alone has the call
  given_alone : (gs : List (Gift T)) (call key i : ℕ) (d : Gift T) → i < length gs → call_at gs i d ≡ call → ((j : ℕ) (e : Gift T) → j < length gs → j ≢ i → call_at gs j e ≢ call) → given gs call key ≡ cond (eqb (get_or gs i d).key key) (Some (get_or gs i d).what) None
  given_alone [] call key i d lt is none = absurd (omega arith)
  given_alone (g ∷ gs) call key zero d lt is none = grind (arith, nat_tests, given_absent gs call key (λ j e below. none (suc j) e (omega arith) (omega arith)))
  given_alone (g ∷ gs) call key (suc i) d lt is none = grind (arith, nat_tests, none 0 g (omega arith) (omega arith), given_alone gs call key i d (omega arith) is (λ j e below other. none (suc j) e (omega arith) (omega arith)))

  module _ (gs : List (Gift T)) (up : Rises gs) (call : ℕ) where
    comparisons_rise : IsNonDecreasingBy (λ g. ordering_index (nat_cmp g.call call)) gs
    comparisons_rise i j d le lt =
        let rise : call_at gs i d ≤ call_at gs j d = grind (arith, up i j d, λ (same : i ≡ j). ap (λ k. call_at gs k d) same) in
        grind (arith, nat_tests)

    pub found : (key i : ℕ) (d : Gift T) → IsSearchInRange (Ok i) (length gs) → IsBinarySearchResult (λ g. nat_cmp g.call call) gs (Ok i) → given gs call key ≡ cond (eqb (get_or gs i d).key key) (Some (get_or gs i d).what) None
    found key i d lt equal =
        let is : call_at gs i d ≡ call = ranked _ call _ (sym (equal d)) in
        given_alone gs call key i d lt is (λ j e below other same.
        let at : call_at gs i e ≡ call = ranked _ call _ (sym (equal e)) in
        grind (arith, nat_tests, up i j e, up j i e))

    pub unfound : (key i : ℕ) → IsSearchInRange (Err i) (length gs) → IsBinarySearchResult (λ g. nat_cmp g.call call) gs (Err i) → given gs call key ≡ None
    unfound key i le parted =
        given_absent gs call key (λ j d lt same.
        let low = (parted comparisons_rise).0 j d in
        let high = (parted comparisons_rise).1 j d in
        grind (arith, nat_tests, low, high))

  pub lent : (b : Bool) (x : Bor T) → option_map (λ y. y.now) (then_some b x) ≡ cond b (Some x.now) None
  lent true x = refl
  lent false x = refl

  pub rises-append : (gs : List (Gift T)) (g : Gift T) → Rises gs → All (λ h. h.call < g.call) gs → Rises (gs ++ g ∷ [])
  rises-append gs g up below i j d lt within = grind (arith, common_steps, up i j d, below i d)

  pub below_last : (gs : List (Gift T)) (call : ℕ) (last : Gift T) → Rises gs → Some last ≡ slice_get gs (length gs - 1) → last.call < call → All (λ h. h.call < call) gs
  below_last gs call last up is low k d lt =
      let at : get_or gs (length gs - 1) d ≡ last = get_or_from_slice_get gs (length gs - 1) last d (sym is) in
      let end : (get_or gs (length gs - 1) d).call < call = rw at low in
      grind (arith, up k (length gs - 1) d, λ (same : k ≡ length gs - 1). ap (λ i. call_at gs i d) same)
