-- What is given, by a list that has one gift more, and seen through a function. Assumes nothing.
use Rattle.std.proofs.Common.{◌≡◌, ℕ, true, false, cond, ◌&&◌, eqb, List, [], ◌∷◌, ◌++◌, Some, None, Option, refl, ap}
use Rattle.std.specs.Option.{option_map, option_or}
use Rattle.replay.specs.Gifts.{given, giving}
use Rattle.replay.specs.declared.history.Gift.{Gift}

pub given-append : {T : Type 0} (gs : List (Gift T)) (g : Gift T) (c k : ℕ) → given (gs ++ g ∷ []) c k ≡ giving g.call g.key (Some g.what) (given gs) c k
given-append [] g c k = refl
given-append (h ∷ gs) g c k =
    elim (eqb h.call c && eqb h.key k) as (λ b. cond b (Some h.what) (given (gs ++ g ∷ []) c k) ≡ option_or (cond b (Some h.what) (given gs c k)) (cond (eqb g.call c && eqb g.key k) (Some g.what) None)) [
      | true ↦ refl
      | false ↦ given-append gs g c k
    ]

pub option_map-giving : {A B : Type 0} (f : A → B) (call key : ℕ) (x : A) (y : B) (before : ℕ → ℕ → Option A) (c k : ℕ) → f x ≡ y → option_map f (giving call key (Some x) before c k) ≡ giving call key (Some y) (λ c' k'. option_map f (before c' k')) c k
option_map-giving f call key x y before c k e =
    elim (before c k) as (λ o. option_map f (option_or o (cond (eqb call c && eqb key k) (Some x) None)) ≡ option_or (option_map f o) (cond (eqb call c && eqb key k) (Some y) None)) [
      | None ↦ elim (eqb call c && eqb key k) as (λ b. option_map f (cond b (Some x) None) ≡ cond b (Some y) None) [ true ↦ ap Some e | false ↦ refl ]
      | Some o ↦ refl
    ]
