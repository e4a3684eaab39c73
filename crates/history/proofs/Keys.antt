-- One key: what deliver, delete and put make of a set of events, merge, discard and put make of what it shows. Assumes nothing.
use Rattle.std.proofs.Common.{◌≡◌, ℕ, ◌+◌, ◌-◌, ◌<◌, ◌≤◌, min, max, Bool, true, false, cond, eqb, List, [], ◌∷◌, ◌++◌, map, length, set, Some, None, Option, sym, refl, ap, ◌∙◌, subst, ap₂, ⊎_elim, append-nil, arith, length-take}
use Rattle.std.specs.List.{ContainsAt as Has, AllByRecursion}
use Rattle.std.proofs.lemmas.List.{take-map, get_or_past}
use Rattle.std.proofs.lemmas.List.FromFn.{length-map-range_with_len}
use Rattle.std.proofs.lemmas.Bool.{eqb-false, eq-eqb, ne_eqb, cond-true, cond-false, cases_eq, cases_lt}
use Rattle.refusals.specs.declared.Refusal.TheVariants.{TooManySiblings, CounterExhausted}
use Rattle.dvvset.specs.declared.writes.Dot.{Dot}
use Rattle.dvvset.specs.Limits.{columns, most_siblings, last_counter}
use Rattle.dvvset.specs.Clock.{ColumnState, Legal, State, LegalState, Outcome, refused, accepted, no_writes, column_at, merge_column, discard_column, push, context, merge, discard, put as clock_put}
use Rattle.dvvset.specs.Listing.{dotted, siblings}
use Rattle.history.specs.Events.{Write, Events, as_list, writes, covered, outside, held, highest, down, newest, each_column, tops}
use Rattle.history.specs.Shown.{shown_column, shown, sibling, listing}
use Rattle.history.specs.Machine.{join}
use Rattle.history.proofs.Sets.{writes-++, covered-++, highest-++, length-down, writes_subset, covered_subset}
use Rattle.history.proofs.Tables.{zip_map, map_same, map-map, joined_same, map-joined, at_column, set-column, dotted-columns}
use Rattle.history.proofs.Columns.{Full, Sound, newest-held, newest-outside, sound-++, sound_cover, next, full_next, sound-next, column_of, length-column, discard_of, merge_of, column_old, push_of, dotted-down}

module _ {V : Type 0} where
  -- a set of events, of a key with the writes H so far
  abbrev pub SoundSet : List (Write V) → Events V → Type 0
  SoundSet H K = Sound H (writes K) (covered K)

  pub writes-join : (n : ℕ) (K C : Events V) (x : Option (Write V)) → writes (join n K C x) ≡ writes K ++ writes C ++ as_list x
  writes-join n K C x = writes-++ (K ++ C) _ ∙ ap₂ (λ x y. x ++ y) (writes-++ K C) (append-nil (as_list x))

  pub covered-join : (n : ℕ) (K C : Events V) (x : Option (Write V)) → covered (join n K C x) ≡ covered K ++ covered C ++ writes C
  covered-join n K C x = covered-++ (K ++ C) _ ∙ ap₂ (λ x y. x ++ y) (covered-++ K C) (append-nil (writes C))

  pub context_is : (K : Events V) → context (shown K) ≡ tops K
  unfolding context shown
  context_is K = map-map (λ a. a.top) (shown_column K) each_column

  pub shown_at : (K : Events V) (c : ℕ) → c < columns → column_at (shown K) c ≡ shown_column K c
  unfolding shown
  shown_at K c l = at_column (shown_column K) c no_writes l

  module _ (H : List (Write V)) (full : Full H) where
    pub column_is : (K : Events V) → SoundSet H K → (c : ℕ) → shown_column K c ≡ column_of H c (highest c (writes K)) (highest c (covered K))
    column_is K g c =
        let t : ℕ = highest c (writes K) in
        let f : ℕ = highest c (covered K) in
        ap (λ vs. record { top = t; values = vs }) (ap (map (λ w. w.value)) (newest-held H full (writes K) (covered K) g c) ∙ sym (take-map (λ w. w.value) (t - f) (down c t H)))

    siblings_column : (K : Events V) → SoundSet H K → (c : ℕ) → dotted c (shown_column K c).top (shown_column K c).values ≡ map sibling (newest c (held K))
    siblings_column K g c =
        ap (λ (a : ColumnState V). dotted c a.top a.values) (column_is K g c) ∙ dotted-down H full c (highest c (writes K)) (highest c (writes K) - highest c (covered K)) (g.within c) ∙ sym (ap (map sibling) (newest-held H full (writes K) (covered K) g c))

    pub siblings_is : (K : Events V) → SoundSet H K → siblings (shown K) ≡ listing K
    unfolding siblings shown
    siblings_is K g = dotted-columns (shown_column K) ∙ joined_same _ _ each_column (siblings_column K g) ∙ sym (map-joined sibling (λ c. newest c (held K)) each_column)

    -- sets with the same members
    pub same_members : (K L : Events V) → SoundSet H K → SoundSet H L → AllByRecursion (Has L) K → AllByRecursion (Has K) L → shown K ≡ shown L
    unfolding shown
    same_members K L g h p q = map_same _ _ each_column each
      where
        each : (c : ℕ) → shown_column K c ≡ shown_column L c
        each c =
            let t : highest c (writes K) ≡ highest c (writes L) = omega (arith, writes_subset c K L p, writes_subset c L K q) in
            let f : highest c (covered K) ≡ highest c (covered L) = omega (arith, covered_subset c K L p, covered_subset c L K q) in
            column_is K g c ∙ ap₂ (column_of H c) t f ∙ sym (column_is L h c)

    legal_column : (K : Events V) → SoundSet H K → (c : ℕ) → highest c H ≤ last_counter → Legal (shown_column K c)
    legal_column K g c low =
        let n = ap (λ (a : ColumnState V). length a.values) (column_is K g c) ∙ length-column H full c (highest c (writes K)) (highest c (covered K)) (g.within c) in
        record { few = omega (arith, n, g.room c); within = omega (arith, n); low = omega (arith, g.within c) }

    pub legal_shown : (K : Events V) → SoundSet H K → ((c : ℕ) → highest c H ≤ last_counter) → LegalState (shown K)
    unfolding shown
    legal_shown K g low = record { wide = wide; each = λ c. ⊎_elim (inside c) (beyond c) (cases_lt c columns) }
      where
        wide : length (shown K) ≡ columns
        wide = length-map-range_with_len (shown_column K) 0 columns

        inside : (c : ℕ) → c < columns → Legal (column_at (shown K) c)
        inside c l = subst Legal (sym (shown_at K c l)) (legal_column K g c (low c))

        beyond : (c : ℕ) → columns ≤ c → Legal (column_at (shown K) c)
        beyond c l = subst Legal (sym (get_or_past (shown K) c no_writes (omega (arith, wide)))) (record { few = omega arith; within = omega arith; low = omega arith })

    pub sound_nothing : SoundSet H []
    sound_nothing = record { below = λ c. omega arith; room = λ c. omega arith; within = λ c. omega arith; same = λ c k l. absurd (omega arith); all = λ c k l. absurd (omega arith); real = tt }

    -- ---- deliver

    pub sound_union : (K F : Events V) → SoundSet H K → SoundSet H F → SoundSet H (K ++ F)
    sound_union K F g h = rw (writes-++ K F, covered-++ K F) (sound-++ H full (writes K) (covered K) (writes F) (covered F) g h)

    deliver_column : (K F : Events V) → SoundSet H K → SoundSet H F → (c : ℕ) → merge_column (shown_column K c) (shown_column F c) ≡ shown_column (K ++ F) c
    deliver_column K F g h c =
        ap₂ merge_column (column_is K g c) (column_is F h c)
        ∙ merge_of H full c (highest c (writes K)) (highest c (covered K)) (highest c (writes F)) (highest c (covered F)) (g.below c) (h.below c) (g.within c) (h.within c)
        ∙ sym (column_is (K ++ F) (sound_union K F g h) c ∙ ap₂ (column_of H c) (ap (highest c) (writes-++ K F) ∙ highest-++ c (writes K) (writes F)) (ap (highest c) (covered-++ K F) ∙ highest-++ c (covered K) (covered F)))

    pub deliver_is : (K F : Events V) → SoundSet H K → SoundSet H F → merge (shown K) (shown F) ≡ shown (K ++ F)
    unfolding merge shown
    deliver_is K F g h = zip_map merge_column (shown_column K) (shown_column F) each_column ∙ map_same _ _ each_column (deliver_column K F g h)

    -- ---- delete

    sound_cover_join : (K C : Events V) → SoundSet H K → SoundSet H C → Sound H (writes K ++ writes C) (covered K ++ covered C ++ writes C)
    sound_cover_join K C g h =
        sound_cover H full (writes K ++ writes C) (covered K ++ covered C) (writes C) (covered C) (sound-++ H full (writes K) (covered K) (writes C) (covered C) g h) h (λ c. rw highest-++ (omega arith))

    floor_join : (K C : Events V) → SoundSet H C → (c : ℕ) → highest c (covered K ++ covered C ++ writes C) ≡ max (highest c (covered K)) (highest c (writes C))
    floor_join K C h c = rw (highest-++ c (covered K ++ covered C) (writes C), highest-++ c (covered K) (covered C)) (omega (arith, h.below c))

    discarded : (K C : Events V) → SoundSet H K → (c : ℕ) → discard_column (shown_column K c) (highest c (writes C)) ≡ column_of H c (max (highest c (writes K)) (highest c (writes C))) (max (highest c (covered K)) (highest c (writes C)))
    discarded K C g c =
        ap (λ a. discard_column a (highest c (writes C))) (column_is K g c) ∙ discard_of H full c (highest c (writes K)) (highest c (covered K)) (highest c (writes C)) (g.below c)

    discard_is : (K C : Events V) → discard (tops C) (shown K) ≡ map (λ c. discard_column (shown_column K c) (highest c (writes C))) each_column
    unfolding discard shown
    discard_is K C = zip_map discard_column (shown_column K) (λ c. highest c (writes C)) each_column

    module _ (n : ℕ) (K C : Events V) (g : SoundSet H K) (h : SoundSet H C) where
      pub sound_delete : SoundSet H (join n K C None)
      sound_delete = rw (writes-join n K C None, append-nil (writes K ++ writes C), covered-join n K C None) (sound_cover_join K C g h)

      delete_column : (c : ℕ) → discard_column (shown_column K c) (highest c (writes C)) ≡ shown_column (join n K C None) c
      delete_column c =
          discarded K C g c
          ∙ sym (column_is (join n K C None) sound_delete c ∙ ap₂ (column_of H c) (ap (highest c) (writes-join n K C None ∙ append-nil (writes K ++ writes C)) ∙ highest-++ c (writes K) (writes C)) (ap (highest c) (covered-join n K C None) ∙ floor_join K C h c))

      pub delete_is : discard (tops C) (shown K) ≡ shown (join n K C None)
      unfolding shown
      delete_is = discard_is K C ∙ map_same _ _ each_column delete_column

  -- ---- put

  module _ (H : List (Write V)) (full : Full H) (n o : ℕ) (K C : Events V) (g : SoundSet H K) (h : SoundSet H C) (all : highest o (writes K) ≡ highest o H) where
    -- how many writes of the own column are known, uncovered and outside the context
    abbrev standing : ℕ
    standing = length (newest o (outside (writes C) (held K)))

    standing_is : standing ≡ highest o (writes K) - max (highest o (covered K)) (highest o (writes C))
    standing_is =
        let t : ℕ = highest o (writes K) in
        let m : ℕ = max (highest o (covered K)) (highest o (writes C)) in
        let d : length (down o t H) ≡ t = length-down o t H (λ k l. full o k (omega arith)) in
        let y : standing ≡ min (t - m) (length (down o t H)) =
        ap length (newest-outside H full (writes K) (covered K) (writes C) (covered C) g h o) ∙ length-take (t - m) (down o t H) in
        omega arith

    -- the values that a discard leaves are as many
    stay_length : length (discard_column (shown_column K o) (highest o (writes C))).values ≡ standing
    stay_length =
        let t : ℕ = highest o (writes K) in
        let m : ℕ = max (highest o (covered K)) (highest o (writes C)) in
        let x : length (discard_column (shown_column K o) (highest o (writes C))).values ≡ max t (highest o (writes C)) - m =
        ap (λ (a : ColumnState V). length a.values) (discarded H full K C g o) ∙ length-column H full o (max t (highest o (writes C))) m (omega (arith, g.within o, h.within o)) in
        omega (arith, h.within o, standing_is)

    -- and the top is the highest known counter
    stay_top : (discard_column (shown_column K o) (highest o (writes C))).top ≡ highest o (writes K)
    stay_top = ap (λ (a : ColumnState V). a.top) (discarded H full K C g o) ∙ (let e : max (highest o (writes K)) (highest o (writes C)) ≡ highest o (writes K) = omega (arith, h.within o) in e)

    -- a put that is not refused for its siblings
    module _ (v : V) (free : eqb standing most_siblings ≡ false) (inside : o < columns) where
      abbrev new : Write V
      new = record { column = o; counter = highest o (writes K) + 1; value = v }

      abbrev grown : Events V
      grown = join n K C (Some new)

      new_is : new ≡ next o v H
      new_is = ap (λ m. record { column = o; counter = m + 1; value = v }) all

      sound_joined : Sound (next o v H ∷ H) (writes K ++ writes C ++ next o v H ∷ []) (covered K ++ covered C ++ writes C)
      sound_joined =
          sound-next H full o v (writes K ++ writes C) (covered K ++ covered C ++ writes C) (sound_cover_join H full K C g h) (rw highest-++ (omega (arith, h.within o)))
          (omega (arith, floor_join H full K C h o, standing_is, eqb-false standing most_siblings free, g.room o)) inside

      pub sound-put : SoundSet (next o v H ∷ H) grown
      sound-put = rw (writes-join n K C (Some new), covered-join n K C (Some new), new_is) sound_joined

      pub top-put : (c : ℕ) → highest c (writes grown) ≡ max (max (highest c (writes K)) (highest c (writes C))) (cond (eqb o c) (highest o H + 1) 0)
      top-put c = rw (writes-join n K C (Some new), highest-++ c (writes K ++ writes C) (new ∷ []), highest-++ c (writes K) (writes C), all) (omega arith)

      pub floor_put : (c : ℕ) → highest c (covered grown) ≡ max (highest c (covered K)) (highest c (writes C))
      floor_put c = ap (highest c) (covered-join n K C (Some new)) ∙ floor_join H full K C h c

      pub top-own : highest o (writes grown) ≡ highest o H + 1
      top-own =
          let r : cond (eqb o o) (highest o H + 1) 0 ≡ highest o H + 1 = cond-true (eqb o o) (highest o H + 1) 0 (eq-eqb o o refl) in
          omega (arith, top-put o, h.within o)

      pub top_other : (c : ℕ) → (o ≡ c → ⊥) → highest c (writes grown) ≡ max (highest c (writes K)) (highest c (writes C))
      top_other c d =
          let r : cond (eqb o c) (highest o H + 1) 0 ≡ 0 = cond-false (eqb o c) (highest o H + 1) 0 (ne_eqb o c d) in
          omega (arith, top-put c)

      state-put : (c : ℕ) → shown_column grown c ≡ column_of (next o v H ∷ H) c (highest c (writes grown)) (highest c (covered grown))
      state-put c = column_is (next o v H ∷ H) (full_next H full o v) grown sound-put c

      -- a column of the clock's state after the put
      abbrev put_column : ℕ → ColumnState V
      put_column c = cond (eqb o c) (push v (discard_column (shown_column K o) (highest o (writes C)))) (discard_column (shown_column K c) (highest c (writes C)))

      put_own : put_column o ≡ shown_column grown o
      put_own =
          let t : max (highest o (writes K)) (highest o (writes C)) ≡ highest o H = omega (arith, h.within o) in
          cond-true (eqb o o) _ _ (eq-eqb o o refl)
          ∙ ap (push v) (discarded H full K C g o ∙ ap (λ m. column_of H o m (max (highest o (covered K)) (highest o (writes C)))) t)
          ∙ push_of H full o v (max (highest o (covered K)) (highest o (writes C))) (omega (arith, h.within o, g.within o, g.below o))
          ∙ sym (state-put o ∙ ap₂ (column_of (next o v H ∷ H) o) top-own (floor_put o))

      put_other : (c : ℕ) → (o ≡ c → ⊥) → put_column c ≡ shown_column grown c
      put_other c d =
          cond-false (eqb o c) _ _ (ne_eqb o c d)
          ∙ discarded H full K C g c
          ∙ sym (column_old H full c o v (max (highest c (writes K)) (highest c (writes C))) (max (highest c (covered K)) (highest c (writes C))) (omega (arith, g.within c, h.within c)))
          ∙ sym (state-put c ∙ ap₂ (column_of (next o v H ∷ H) c) (top_other c d) (floor_put c))

      put_state : (c : ℕ) → put_column c ≡ shown_column grown c
      put_state c = ⊎_elim (λ p. subst (λ x. put_column x ≡ shown_column grown x) p put_own) (put_other c) (cases_eq o c)

    -- what a put comes to, in the words of the machine
    abbrev pub outcome : V → Outcome Dot (State V)
    outcome v =
        cond (eqb (highest o (writes K)) last_counter) (refused CounterExhausted)
        (cond (eqb standing most_siblings) (refused TooManySiblings)
        (accepted (record { column = o; counter = highest o (writes K) + 1 }) (shown (join n K C (Some (record { column = o; counter = highest o (writes K) + 1; value = v }))))))

    pub put_is : (v : V) → o < columns → clock_put o (tops C) v (shown K) ≡ outcome v
    unfolding clock_put shown
    put_is v l =
        ap (λ (S : State V). by (column_at S o) S) (discard_is H full K C)
        ∙ ap (λ (a : ColumnState V). by a (map left each_column)) (at_column left o no_writes l)
        ∙ go (eqb (highest o (writes K)) last_counter) (ap (λ m. eqb m last_counter) stay_top) (eqb standing most_siblings) refl (ap (λ m. eqb m most_siblings) stay_length)
      where
        left : ℕ → ColumnState V
        left c = discard_column (shown_column K c) (highest c (writes C))

        -- what the clock does with the own column and the state, once what was seen is discarded
        by : ColumnState V → State V → Outcome Dot (State V)
        by mine S =
            cond (eqb mine.top last_counter) (refused CounterExhausted)
            (cond (eqb (length mine.values) most_siblings) (refused TooManySiblings) (accepted (record { column = o; counter = mine.top + 1 }) (set S o (push v mine))))

        go : (a : Bool) → eqb (left o).top last_counter ≡ a → (b : Bool) → eqb standing most_siblings ≡ b → eqb (length (left o).values) most_siblings ≡ eqb standing most_siblings
            → by (left o) (map left each_column)
            ≡ cond a (refused CounterExhausted) (cond b (refused TooManySiblings) (accepted (record { column = o; counter = highest o (writes K) + 1 }) (shown (join n K C (Some (record { column = o; counter = highest o (writes K) + 1; value = v }))))))
        go true e b d f = cond-true _ _ _ e
        go false e true d f = cond-false _ _ _ e ∙ cond-true _ _ _ (f ∙ d)
        go false e false d f =
            cond-false _ _ _ e
            ∙ cond-false _ _ _ (f ∙ d)
            ∙ ap₂ (λ m S. accepted (record { column = o; counter = m + 1 }) S) stay_top (set-column left o (push v (left o)) l ∙ map_same _ _ each_column (put_state v d l))
