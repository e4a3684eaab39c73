-- The siblings of a set of events are the writes that it holds. Assumes nothing.
use Rattle.std.proofs.Common.{◌≡◌, ℕ, zero, suc, ◌-◌, ◌<◌, ◌≤◌, Bool, true, false, cond, not, eqb, List, [], ◌∷◌, ◌++◌, sym, refl, ap, ◌∙◌, subst, ⊎_elim, zero-add, arith}
use Rattle.std.specs.List.{ContainsAt as Has, flat_map, AllByRecursion}
use Rattle.std.proofs.lemmas.List.FromFn.{get_or-range_with_len}
use Rattle.std.proofs.ByRecursion.{All-append, All-weaker, all-has, all_has_itself, all_kept_by, kept_by_passes, has_append_left, has_append_right, has_get_or}
use Rattle.std.proofs.lemmas.Bool.{cond-true, cond-false, eq-eqb, not-true, cases_lt}
use Rattle.history.specs.Events.{Write, Events, writes, covered, has_dot, among, held, highest, the, down, newest, each_column, in_order}
use Rattle.dvvset.specs.Limits.{columns}
use Rattle.history.specs.Refines.{SameMembers}
use Rattle.history.proofs.Sets.{the-outside}
use Rattle.history.proofs.Columns.{Named}
use Rattle.history.proofs.Keys.{SoundSet}

pub has_here : {A : Type 0} (x : A) (xs : List A) → Has (x ∷ xs) x
has_here x xs = (0, omega arith, λ d. refl)

all-joined : {X A : Type 0} (P : A → Type 0) (f : X → List A) (xs : List X) → ((x : X) → AllByRecursion P (f x)) → AllByRecursion P (flat_map f xs)
all-joined P f [] h = tt
all-joined P f (x ∷ xs) h = All-append P (f x) (flat_map f xs) (h x) (all-joined P f xs h)

all_each : {X A : Type 0} (f : X → List A) (a : A) (xs : List X) → AllByRecursion (λ x. Has (f x) a → Has (flat_map f xs) a) xs
all_each f a [] = tt
all_each f a (x ∷ xs) = (has_append_left (f x) (flat_map f xs) a, All-weaker (λ y. Has (f y) a → Has (flat_map f xs) a) (λ y. Has (f y) a → Has (f x ++ flat_map f xs) a) (λ y h p. has_append_right (f x) (flat_map f xs) a (h p)) xs (all_each f a xs))

column_has : (c : ℕ) → c < columns → Has each_column c
column_has c l = subst (Has each_column) (get_or-range_with_len 0 columns c 0 l ∙ zero-add c) (has_get_or each_column c 0 l)

module _ {V : Type 0} where
  the_member : (c n : ℕ) (ws : List (Write V)) → AllByRecursion (Has ws) (the c n ws)
  the_member c n [] = tt
  the_member c n (w ∷ ws) = go (has_dot c n w) (the_member c n ws)
    where
      go : (b : Bool) → AllByRecursion (Has ws) (the c n ws) → AllByRecursion (Has (w ∷ ws)) (cond b (w ∷ []) (the c n ws))
      go true ih = (has_here w ws, tt)
      go false ih = All-weaker (Has ws) (Has (w ∷ ws)) (λ x h. has_append_right (w ∷ []) ws x h) (the c n ws) ih

  down_member : (c n : ℕ) (ws : List (Write V)) → AllByRecursion (Has ws) (down c n ws)
  down_member c zero ws = tt
  down_member c (suc n) ws = All-append (Has ws) (the c (suc n) ws) (down c n ws) (the_member c (suc n) ws) (down_member c n ws)

  down_has : (c n m : ℕ) (ws : List (Write V)) (x : Write V) → suc m ≤ n → Has (the c (suc m) ws) x → Has (down c n ws) x
  down_has c zero m ws x l h = absurd (omega arith)
  down_has c (suc n) m ws x l h =
      ⊎_elim (λ (p : m < n). has_append_right (the c (suc n) ws) (down c n ws) x (down_has c n m ws x p h))
      (λ (p : n ≤ m). let e : m ≡ n = omega arith in has_append_left (the c (suc n) ws) (down c n ws) x (subst (λ i. Has (the c (suc i) ws) x) e h)) (cases_lt m n)

  counter_below : (ws : List (Write V)) → AllByRecursion (λ w. w.counter ≤ highest w.column ws) ws
  counter_below [] = tt
  counter_below (w ∷ ws) =
      let r = cond-true (eqb w.column w.column) w.counter 0 (eq-eqb w.column w.column refl) in
      (omega (arith, r), All-weaker (λ x. x.counter ≤ highest x.column ws) (λ x. x.counter ≤ highest x.column (w ∷ ws)) (λ x h. omega arith) ws (counter_below ws))

  module _ (H : List (Write V)) (K : Events V) (g : SoundSet H K) where
    one_listed : (x : Write V) → Has (held K) x → Has (newest x.column (held K)) x
    one_listed x h =
        let c : ℕ = x.column in
        let m : ℕ = x.counter - 1 in
        let known : Has (writes K) x = all-has (Has (writes K)) (held K) x (all_kept_by (λ w. not (among w.column w.counter (covered K))) (Has (writes K)) (writes K) (all_has_itself (writes K))) h in
        let free : among c x.counter (covered K) ≡ false = not-true (among c x.counter (covered K)) (all-has (λ w. not (among w.column w.counter (covered K)) ≡ true) (held K) x (kept_by_passes (λ w. not (among w.column w.counter (covered K))) (writes K)) h) in
        let name = all-has (Named H) (writes K) x g.real known in
        let z : x.counter ≡ suc m = omega (arith, name.2) in
        let low : x.counter ≤ highest c (writes K) = all-has (λ w. w.counter ≤ highest w.column (writes K)) (writes K) x (counter_below (writes K)) known in
        let top : x.counter ≤ highest c (held K) = all-has (λ w. w.counter ≤ highest w.column (held K)) (held K) x (counter_below (held K)) h in
        let is : the c (suc m) (held K) ≡ x ∷ [] =
        ap (λ n. the c n (held K)) (sym z)
        ∙ the-outside c x.counter (covered K) (writes K)
        ∙ cond-false (among c x.counter (covered K)) [] (the c x.counter (writes K)) free
        ∙ ap (λ n. the c n (writes K)) z
        ∙ g.same c m (omega arith)
        ∙ ap (λ n. the c n H) (sym z)
        ∙ name.0 in
        down_has c (highest c (held K)) m (held K) x (omega arith) (subst (λ ws. Has ws x) (sym is) (has_here x []))

    in_column : (x : Write V) → Has (held K) x → x.column < columns
    in_column x h = (all-has (Named H) (held K) x (all_kept_by (λ w. not (among w.column w.counter (covered K))) (Named H) (writes K) g.real) h).1

    pub listed_held : SameMembers (in_order (held K)) (held K)
    listed_held = (
      all-joined (Has (held K)) (λ c. newest c (held K)) each_column (λ c. down_member c (highest c (held K)) (held K)),
      All-weaker (Has (held K)) (Has (in_order (held K)))
          (λ x h. all-has (λ c. Has (newest c (held K)) x → Has (in_order (held K)) x) each_column x.column (all_each (λ c. newest c (held K)) x each_column) (column_has x.column (in_column x h)) (one_listed x h))
          (held K) (all_has_itself (held K)),
    )
