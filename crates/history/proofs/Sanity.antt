-- The machine does what one expects of it. Assumes nothing.
use Rattle.std.proofs.Common.{◌≡◌, ℕ, zero, suc, ◌+◌, ◌-◌, ◌<◌, ◌≤◌, max, Bool, true, false, cond, not, ◌&&◌, eqb, ltb, List, [], ◌∷◌, ◌++◌, map, length, take, Some, None, filter, sym, refl, ap, ◌∙◌, subst, ap₂, ⊎_elim, append-nil, zero-add, arith}
use Rattle.std.specs.List.{range_with_len, ContainsAt as Has, flat_map, AllByRecursion}
use Rattle.std.proofs.ByRecursion.{All-weaker, all-has, all_has_itself, All-append, has_append_left, has_append_right, has_push}
use Rattle.std.proofs.lemmas.Bool.{eq-eqb, ne_eqb, lt-ltb, and_from, not_from_false, cond-true, cond-false, cases_eq}
use Rattle.dvvset.specs.declared.writes.Dot.{Dot}
use Rattle.dvvset.specs.Limits.{columns, last_counter}
use Rattle.history.specs.Events.{Write, Events, writes, covered, among, held, highest, down, newest, each_column, in_order}
use Rattle.history.specs.Calls.{Context, seen_at, Call, get, put, send, deliver, wrote, done, named}
use Rattle.history.specs.Shown.{shown, sibling, listing}
use Rattle.history.specs.Machine.{context_of, frame_of, World, own, learn, hand_out, tick, Step, to, context_in, context_for, frame_in, with_set, join, put_at, new_dot, new_write, put_world, step, next, after, start}
use Rattle.history.specs.Refines.{Within, is_known}
use Rattle.history.specs.Sanity.{PutIsHeld, PutStandsAlone, exchange, ExchangeAgrees, LastCounterRefused}
use Rattle.history.proofs.Sets.{none_above}
use Rattle.history.proofs.Columns.{newest-held, full_next, down-next, next as next_write}
use Rattle.history.proofs.Tables.{joined_same}
use Rattle.history.proofs.Keys.{SoundSet, writes-join, sound-put, top-own, top_other, floor_put}
use Rattle.history.proofs.Listed.{listed_held, has_here}
use Rattle.history.proofs.Cases.{Puttable, by_put}
use Rattle.history.proofs.Good.{set_key_same, set_key_other, Good, good_start, context_fits}
use Rattle.history.proofs.Sane.{sane}
use Rattle.history.proofs.Runs.{after-append, after_push, calls_after, good-after}

-- ---- members

has_kept_by : {A : Type 0} (p : A → Bool) (xs : List A) → AllByRecursion (λ x. p x ≡ true → Has (filter p xs) x) xs
has_kept_by p [] = tt
has_kept_by {A} p (x ∷ xs) = go (p x) refl (has_kept_by p xs)
  where
    go : (b : Bool) → p x ≡ b → AllByRecursion (λ y. p y ≡ true → Has (filter p xs) y) xs → AllByRecursion (λ y. p y ≡ true → Has (cond b (x ∷ filter p xs) (filter p xs)) y) (x ∷ xs)
    go true e ih = (λ f. has_here x (filter p xs), All-weaker (λ y. p y ≡ true → Has (filter p xs) y) (λ y. p y ≡ true → Has (x ∷ filter p xs) y) (λ y h f. has_append_right (x ∷ []) (filter p xs) y (h f)) xs ih)
    go false e ih = (λ f. let z : ◌≡◌ {A = ℕ} 0 1 = cc in absurd (omega arith), ih)

has_map : {A B : Type 0} (f : A → B) (xs : List A) → AllByRecursion (λ x. Has (map f xs) (f x)) xs
has_map f [] = tt
has_map f (x ∷ xs) = (has_here (f x) (map f xs), All-weaker (λ y. Has (map f xs) (f y)) (λ y. Has (f x ∷ map f xs) (f y)) (λ y h. has_append_right (f x ∷ []) (map f xs) (f y) h) xs (has_map f xs))

within_swap : {A : Type 0} (xs ys : List A) → Within (xs ++ ys) (ys ++ xs)
within_swap xs ys =
    All-append (Has (ys ++ xs)) xs ys (All-weaker (Has xs) (Has (ys ++ xs)) (λ x h. has_append_right ys xs x h) xs (all_has_itself xs))
    (All-weaker (Has ys) (Has (ys ++ xs)) (λ x h. has_append_left ys xs x h) ys (all_has_itself ys))

-- the one column that has anything
joined_none : {A : Type 0} (a n o : ℕ) (xs : List A) → o < a → flat_map (λ c. cond (eqb o c) xs []) (range_with_len a n) ≡ []
joined_none a zero o xs l = refl
joined_none a (suc n) o xs l =
    ap (λ ys. ys ++ flat_map (λ c. cond (eqb o c) xs []) (range_with_len (a + 1) n)) (cond-false (eqb o a) xs [] (ne_eqb o a (λ d. omega arith))) ∙ joined_none (a + 1) n o xs (omega arith)

joined_one : {A : Type 0} (a n o : ℕ) (xs : List A) → a ≤ o → o < a + n → flat_map (λ c. cond (eqb o c) xs []) (range_with_len a n) ≡ xs
joined_one a zero o xs l h = absurd (omega arith)
joined_one {A} a (suc n) o xs l h = ⊎_elim here (λ d. there d (joined_one (a + 1) n o xs (omega arith) (omega arith))) (cases_eq o a)
  where
    more : List A
    more = flat_map (λ c. cond (eqb o c) xs []) (range_with_len (a + 1) n)

    here : o ≡ a → cond (eqb o a) xs [] ++ more ≡ xs
    here e = ap₂ (λ ys zs. ys ++ zs) (cond-true (eqb o a) xs [] (eq-eqb o a e)) (joined_none (a + 1) n o xs (omega arith)) ∙ append-nil xs

    there : (o ≡ a → ⊥) → more ≡ xs → cond (eqb o a) xs [] ++ more ≡ xs
    there d ih = ap (λ ys. ys ++ more) (cond-false (eqb o a) xs [] (ne_eqb o a d)) ∙ ih

-- ---- an accepted put

module _ {V : Type 0} where
  -- what the step r, of an accepted put answered by d, has done
  pub record Accepted (w : World V) (s k : ℕ) (x : Context) (v : V) (d : Dot) (r : Step V) : Type 0 where
    pub context : Events V
    pub seen : context_for w k x ≡ Some context
    pub puttable : Puttable w s k context
    pub dot : new_dot w s k ≡ d
    pub world : r.world ≡ put_world w s k context v

  pub put_accepted : (bytes_of : V → List ℕ) (w : World V) (s k : ℕ) (x : Context) (v : V) (d : Dot) → (step bytes_of w (put s k x v)).answer ≡ wrote d → Accepted w s k x v d (step bytes_of w (put s k x v))
  put_accepted bytes_of w s k x v d =
      by_put w (λ r. r.answer ≡ wrote d → Accepted w s k x v d r)
      (λ e h. let z : ◌≡◌ {A = ℕ} 0 1 = cc in absurd (omega arith))
      (λ h. let z : ◌≡◌ {A = ℕ} 0 1 = cc in absurd (omega arith))
      bytes_of s k x v (λ C c p h. record { context = C; seen = c; puttable = p; dot = cc; world = refl })

  module _ (bytes_of : V → List ℕ) (w : World V) (good : Good w) (s k : ℕ) (x : Context) (v : V) (d : Dot) (e : (step bytes_of w (put s k x v)).answer ≡ wrote d) where
    abbrev put_done : Accepted w s k x v d (step bytes_of w (put s k x v))
    put_done = put_accepted bytes_of w s k x v d e

    abbrev H : List (Write V)
    H = good.all-writes k

    abbrev o : ℕ
    o = own w s

    abbrev K : Events V
    K = w.known s k

    abbrev C : Events V
    C = put_done.context

    abbrev new : Write V
    new = new_write w s k v

    -- what is known after it
    abbrev grown : Events V
    grown = join w.calls K C (Some new)

    known_after : (next bytes_of w (put s k x v)).known s k ≡ grown
    known_after = ap (λ u. u.known s k) put_done.world ∙ set_key_same w.known s k grown

    sibling_is : sibling new ≡ record { dot = d; value = v }
    sibling_is = ap (λ y. record { dot = y; value = v }) put_done.dot

    c_sound : SoundSet H C
    c_sound = (context_fits good.all-writes good.all_events w.calls w good.inv k x C put_done.seen).sound

    k_sound : SoundSet H K
    k_sound = (good.inv.knows s k).sound

    all : highest o (writes K) ≡ highest o H
    all = good.inv.mine s k put_done.puttable.alive

    inside : o < columns
    inside = omega (arith, put_done.puttable.seat, put_done.puttable.alive)

    grown_sound : SoundSet (next_write o v H ∷ H) grown
    grown_sound = sound-put H (good.inv.full k) w.calls o K C k_sound c_sound all v put_done.puttable.room inside

    floor : (c : ℕ) → highest c (covered grown) ≡ max (highest c (covered K)) (highest c (writes C))
    floor = floor_put H (good.inv.full k) w.calls o K C k_sound c_sound all v put_done.puttable.room inside

    new_held : Has (held grown) new
    new_held =
        let here : Has (writes grown) new = subst (λ ws. Has ws new) (sym (writes-join w.calls K C (Some new))) (has_push (writes K ++ writes C) new) in
        let free : among o (highest o (writes K) + 1) (covered grown) ≡ false = (none_above o (highest o (writes K) + 1) (covered grown) (omega (arith, floor o, k_sound.below o, c_sound.within o, all))).1 in
        all-has (λ y. not (among y.column y.counter (covered grown)) ≡ true → Has (held grown) y) (writes grown) new (has_kept_by (λ y. not (among y.column y.counter (covered grown))) (writes grown)) here
        (not_from_false (among o (highest o (writes K) + 1) (covered grown)) free)

    pub put-held : Has (listing ((next bytes_of w (put s k x v)).known s k)) (record { dot = d; value = v })
    put-held =
        let listed : Has (in_order (held grown)) new = all-has (Has (in_order (held grown))) (held grown) new (listed_held (next_write o v H ∷ H) grown grown_sound).1 new_held in
        let shown_so : Has (listing grown) (sibling new) = all-has (λ y. Has (listing grown) (sibling y)) (in_order (held grown)) new (has_map sibling (in_order (held grown))) listed in
        subst (λ L. Has (listing L) (record { dot = d; value = v })) (sym known_after) (subst (Has (listing grown)) sibling_is shown_so)

    -- with a context that has all that the seat knows
    module _ (seen : C ≡ K) where
      top_of : (c : ℕ) → highest c (writes C) ≡ highest c (writes K)
      top_of c = ap (λ L. highest c (writes L)) seen

      abbrev H' : List (Write V)
      H' = next_write o v H ∷ H

      column_alone : (c : ℕ) → newest c (held grown) ≡ cond (eqb o c) (new ∷ []) []
      column_alone c =
          newest-held H' (full_next H (good.inv.full k) o v) (writes grown) (covered grown) grown_sound c
          ∙ ⊎_elim (λ p. subst (λ i. take (highest i (writes grown) - highest i (covered grown)) (down i (highest i (writes grown)) H') ≡ cond (eqb o i) (new ∷ []) []) p own_column) other (cases_eq o c)
        where
          top : highest o (writes grown) ≡ highest o H + 1
          top = top-own H (good.inv.full k) w.calls o K C k_sound c_sound all v put_done.puttable.room inside

          own_column : take (highest o (writes grown) - highest o (covered grown)) (down o (highest o (writes grown)) H') ≡ cond (eqb o o) (new ∷ []) []
          own_column =
              let z : highest o (writes grown) - highest o (covered grown) ≡ 1 = omega (arith, top, floor o, top_of o, k_sound.below o, all) in
              ap₂ (λ m n. take m (down o n H')) z top
              ∙ ap (take 1) (down-next H (good.inv.full k) o v)
              ∙ ap (λ m. record { column = o; counter = m + 1; value = v } ∷ []) (sym all)
              ∙ sym (cond-true (eqb o o) (new ∷ []) [] (eq-eqb o o refl))

          other : (o ≡ c → ⊥) → take (highest c (writes grown) - highest c (covered grown)) (down c (highest c (writes grown)) H') ≡ cond (eqb o c) (new ∷ []) []
          other p =
              let same = top_other H (good.inv.full k) w.calls o K C k_sound c_sound all v put_done.puttable.room inside c p in
              let z : highest c (writes grown) - highest c (covered grown) ≡ 0 = omega (arith, same, floor c, top_of c, k_sound.below c) in
              ap (λ m. take m (down c (highest c (writes grown)) H')) z ∙ sym (cond-false (eqb o c) (new ∷ []) [] (ne_eqb o c p))

      pub put_alone : listing ((next bytes_of w (put s k x v)).known s k) ≡ record { dot = d; value = v } ∷ []
      put_alone =
          ap listing known_after
          ∙ ap (map sibling) (joined_same _ _ each_column column_alone ∙ joined_one 0 columns o (new ∷ []) (omega arith) (omega (arith, inside)))
          ∙ ap (λ y. y ∷ []) sibling_is

-- ---- the calls of a put that has just seen, and of an exchange

module _ {V : Type 0} (bytes_of : V → List ℕ) where
  get_world : (w : World V) (s k : ℕ) → named s k ≡ true → next bytes_of w (get s k) ≡ tick (hand_out w (context_of k (w.known s k)))
  unfolding step
  get_world w s k e = ap (λ (r : Step V). tick r.world) (cond-true (named s k) _ _ e)

  send_world : (w : World V) (s k : ℕ) → named s k ≡ true → next bytes_of w (send s k) ≡ tick (hand_out w (frame_of k (w.known s k)))
  unfolding step
  send_world w s k e = ap (λ (r : Step V). tick r.world) (cond-true (named s k) _ _ e)

  deliver_world : (w : World V) (s k t : ℕ) (F : Events V) → named s k ≡ true → w.given t ≡ frame_of k F → next bytes_of w (deliver s k t) ≡ tick (learn w s k (w.known s k ++ F))
  unfolding step
  deliver_world w s k t F e f =
      ap (λ (r : Step V). tick r.world) (cond-true (named s k) _ _ e)
      ∙ ap (λ g. tick (with_set w (frame_in k g) (λ F. to (learn w s k (w.known s k ++ F)) done)).world) f
      ∙ ap (λ o. tick (with_set w o (λ F. to (learn w s k (w.known s k ++ F)) done)).world) (cond-true (eqb k k) (Some F) None (eq-eqb k k refl))

  start_calls : (cs : List (Call V)) → (after bytes_of start cs).calls ≡ length cs
  start_calls cs = calls_after bytes_of start cs ∙ zero-add (length cs)

  -- ---- two seats that exchange what they know

  module _ (w : World V) (s t k : ℕ) (p : named s k ≡ true) (q : named t k ≡ true) where
    abbrev S : Events V
    S = w.known s k

    abbrev T : Events V
    T = w.known t k

    both_sent : World V
    both_sent = tick (hand_out (tick (hand_out w (frame_of k S))) (frame_of k T))

    one_delivered : World V
    one_delivered = tick (learn both_sent t k (T ++ S))

    both_delivered : World V
    both_delivered = tick (learn one_delivered s k (one_delivered.known s k ++ T))

    exchanged : after bytes_of w (exchange s t k w.calls) ≡ both_delivered
    unfolding both_sent one_delivered both_delivered
    exchanged =
        ap (λ u. after bytes_of u (send t k ∷ deliver t k w.calls ∷ deliver s k (w.calls + 1) ∷ [])) (send_world w s k p)
        ∙ ap (λ u. after bytes_of u (deliver t k w.calls ∷ deliver s k (w.calls + 1) ∷ [])) (send_world (tick (hand_out w (frame_of k S))) t k q)
        ∙ ap (λ u. after bytes_of u (deliver s k (w.calls + 1) ∷ [])) (deliver_world both_sent t k w.calls S q first)
        ∙ deliver_world one_delivered s k (w.calls + 1) T p second
      where
        first : both_sent.given w.calls ≡ frame_of k S
        first =
            cond-false (eqb w.calls (w.calls + 1)) (frame_of k T) _ (ne_eqb w.calls (w.calls + 1) (λ e. omega arith))
            ∙ cond-true (eqb w.calls w.calls) (frame_of k S) (w.given w.calls) (eq-eqb w.calls w.calls refl)

        second : one_delivered.given (w.calls + 1) ≡ frame_of k T
        second = cond-true (eqb (w.calls + 1) (w.calls + 1)) (frame_of k T) _ (eq-eqb (w.calls + 1) (w.calls + 1) refl)

    -- at two seats
    module _ (d : s ≡ t → ⊥) where
      knows_s : both_delivered.known s k ≡ S ++ T
      unfolding both_sent one_delivered both_delivered
      knows_s = set_key_same one_delivered.known s k _ ∙ ap (λ K. K ++ T) (set_key_other w.known t k (T ++ S) s d)

      knows_t : both_delivered.known t k ≡ T ++ S
      unfolding both_sent one_delivered both_delivered
      knows_t = set_key_other one_delivered.known s k _ t (λ e. d (sym e)) ∙ set_key_same w.known t k (T ++ S)

-- ---- the theorems

pub put_is_held_lem : (V : Type 0) → PutIsHeld V
put_is_held_lem V bytes_of calls s k x v d e = put-held bytes_of (after bytes_of start calls) (good-after bytes_of start good_start calls) s k x v d e

-- a put with what the get just before it has seen
pub put_stands_alone_lem : (V : Type 0) → PutStandsAlone V
put_stands_alone_lem V bytes_of calls s k v d e = put_alone bytes_of w (good-after bytes_of start good_start (calls ++ get s k ∷ [])) s k (seen_at (length calls)) v d e same
  where
    w₀ : World V
    w₀ = after bytes_of start calls

    w : World V
    w = after bytes_of start (calls ++ get s k ∷ [])

    accepted : Accepted w s k (seen_at (length calls)) v d (step bytes_of w (put s k (seen_at (length calls)) v))
    accepted = put_accepted bytes_of w s k (seen_at (length calls)) v d e

    world : w ≡ tick (hand_out w₀ (context_of k (w₀.known s k)))
    world = after_push bytes_of start calls (get s k) ∙ get_world bytes_of w₀ s k accepted.puttable.place

    given : w.given (length calls) ≡ context_of k (w₀.known s k)
    given = ap (λ u. u.given (length calls)) world ∙ cond-true (eqb (length calls) w₀.calls) _ _ (eq-eqb (length calls) w₀.calls (sym (start_calls bytes_of calls)))

    named_so : context_in k (w.given (length calls)) ≡ Some (w₀.known s k)
    named_so = ap (context_in k) given ∙ cond-true (eqb k k) (Some (w₀.known s k)) None (eq-eqb k k refl)

    same : accepted.context ≡ w.known s k
    same = let a = accepted.seen in let n = named_so in let b : accepted.context ≡ w₀.known s k = cc in b ∙ sym (ap (λ u. u.known s k) world)

-- two seats that exchanged everything
pub exchange_agrees_lem : (V : Type 0) → ExchangeAgrees V
exchange_agrees_lem V bytes_of calls s t k p q = ⊎_elim (λ e. ap (λ r. shown (end.known r k)) e) two_seats (cases_eq s t)
  where
    w : World V
    w = after bytes_of start calls

    end : World V
    end = after bytes_of start (calls ++ exchange s t k (length calls))

    end_is : end ≡ both_delivered bytes_of w s t k p q
    end_is = after-append bytes_of start calls (exchange s t k (length calls)) ∙ ap (λ n. after bytes_of w (exchange s t k n)) (sym (start_calls bytes_of calls)) ∙ exchanged bytes_of w s t k p q

    two_seats : (s ≡ t → ⊥) → shown (end.known s k) ≡ shown (end.known t k)
    two_seats d =
        let a : end.known s k ≡ w.known s k ++ w.known t k = ap (λ u. u.known s k) end_is ∙ knows_s bytes_of w s t k p q d in
        let b : end.known t k ≡ w.known t k ++ w.known s k = ap (λ u. u.known t k) end_is ∙ knows_t bytes_of w s t k p q d in
        let good = good-after bytes_of start good_start (calls ++ exchange s t k (length calls)) in
        ap shown a
        ∙ (sane end good).same_shown k _ _ (is_known s a) (is_known t b) (within_swap (w.known s k) (w.known t k), within_swap (w.known t k) (w.known s k))
        ∙ sym (ap shown b)

pub last_counter_refused_lem : (V : Type 0) → LastCounterRefused V
unfolding step
last_counter_refused_lem V bytes_of w s k x v C p l c e =
    ap (λ (r : Step V). r.answer) (
    cond-true (named s k && ltb (w.life s) 4) _ _ (and_from (named s k) (ltb (w.life s) 4) p (lt-ltb (w.life s) 4 l))
    ∙ ap (λ o. with_set w o (λ C. put_at w s k C v)) c
    ∙ cond-true (eqb (highest (own w s) (writes (w.known s k))) last_counter) _ _ (eq-eqb _ last_counter e))
