-- A put by the column that it writes to; and what a call leaves. Assumes nothing.
use Rattle.std.proofs.Common.{◌≡◌, ℕ, ◌+◌, ◌*◌, ◌<◌, ◌≤◌, true, false, cond, eqb, List, ◌++◌, length, get_or, drop, set, replicate, Ok, Err, sym, refl, ap, ◌∙◌, arith}
use Rattle.std.proofs.lemmas.Bool.{eq-eqb, ne_eqb, cond-true, cond-false}
use Rattle.std.proofs.lemmas.List.{drop_at}
use Rattle.refusals.specs.declared.Refusal.{Refusal}
use Rattle.refusals.specs.declared.Refusal.TheVariants.{TooManySiblings, CounterExhausted, ShortMemory}
use Rattle.dvvset.specs.Clock.{ColumnState, State, Outcome, refused, accepted, answer, after, discard_column, discard, push, put, no_writes, column_at}
use Rattle.dvvset.specs.declared.writes.Dot.{Dot}
use Rattle.dvvset.proofs.Zips.{get_d_zip}
use Rattle.clock.specs.Memory.{top_of, count_of, column, no_row, state, roomy}
use Rattle.clock.specs.Calls.{Leaves, Remains, in_room, unless_refused, putting}
use Rattle.clock.specs.declared.contexts.Context.{Context}
use Rattle.clock.specs.declared.rows.Row.{Row}
use Rattle.clock.proofs.One.{discard_is}
use Rattle.clock.proofs.Whole.{length-column, length-state, get_or-state, state_front_rows}

-- ---- what a call leaves

module _ {V A : Type 0} (rows : List Row) (cells : List V) (o : Outcome A (State V)) where
  pub leaves_refused : (e : Refusal) → o ≡ refused e → Leaves rows cells o (Err e) rows cells
  leaves_refused e is = record { answers = sym (ap answer is); means = sym (ap (after (state rows cells)) is); rows_beyond = refl; cells_beyond = refl; unchanged = λ _. (refl, refl) }

  pub leaves_accepted : (a : A) (S : State V) (rows' : List Row) (cells' : List V) → o ≡ accepted a S → state rows' cells' ≡ S → drop 24 rows' ≡ drop 24 rows → drop 96 cells' ≡ drop 96 cells → Leaves rows cells o (Ok a) rows' cells'
  leaves_accepted a S rows' cells' is means r c =
      record { answers = sym (ap answer is); means = means ∙ sym (ap (after (state rows cells)) is); rows_beyond = r; cells_beyond = c; unchanged = λ e. absurd (never e) }
    where
      never : false ≡ true → ⊥
      never e = let z : ◌≡◌ {A = ℕ} 0 1 = ap (λ b. cond b 1 0) e in omega arith

  -- the key's own rows are left as ws
  pub leaves_front_rows : (a : A) (S : State V) (ws : List Row) → o ≡ accepted a S → state ws cells ≡ S → length ws ≡ 24 → Leaves rows cells o (Ok a) (ws ++ drop 24 rows) cells
  leaves_front_rows a S ws is means l = leaves_accepted a S _ cells is (state_front_rows ws (drop 24 rows) cells l ∙ means) (drop_at ws (drop 24 rows) 24 l) refl

-- ---- a put, where r is the row of the own column c once the context's writes are gone

module _ {V : Type 0} (rows : List Row) (cells : List V) (context : Context) (c : ℕ) (v : V) (r : Row) (inside : c < 24) (left : Remains rows context.tops c r) where
  abbrev C : List ℕ
  C = context.tops

  module _ (room : 96 ≤ length cells) where
    abbrev mine : ColumnState V
    mine = column r (drop (4 * c) cells)

    own_column : column_at (discard C (state rows cells)) c ≡ mine
    unfolding discard
    own_column =
        let z = get_d_zip discard_column c (state rows cells) C no_writes 0 no_writes (omega (arith, length-state rows cells)) (omega (arith, context.wide)) in
        let a = get_or-state rows cells c no_writes inside in
        let h = discard_is (get_or rows c no_row) r (get_or C c 0) (drop (4 * c) cells) left.top left.count in
        cc

    put_8 : top_of r ≡ 999999 → put c C v (state rows cells) ≡ refused CounterExhausted
    unfolding put
    put_8 t = rw own_column (cond-true (eqb (top_of r) 999999) _ _ (eq-eqb (top_of r) 999999 t))

    put_7 : (top_of r ≡ 999999 → ⊥) → count_of r ≡ 4 → put c C v (state rows cells) ≡ refused TooManySiblings
    unfolding put
    put_7 t n = rw own_column (cond-false (eqb (top_of r) 999999) _ _ (ne_eqb (top_of r) 999999 t) ∙ cond-true (eqb (length mine.values) 4) _ _ (eq-eqb (length mine.values) 4 (length-column r c cells inside room ∙ n)))

    put_ok : (top_of r ≡ 999999 → ⊥) → (count_of r ≡ 4 → ⊥) → put c C v (state rows cells) ≡ accepted (record { column = c; counter = top_of r + 1 }) (set (discard C (state rows cells)) c (push v (column r (drop (4 * c) cells))))
    unfolding put
    put_ok t n = rw own_column (cond-false (eqb (top_of r) 999999) _ _ (ne_eqb (top_of r) 999999 t) ∙ cond-false (eqb (length mine.values) 4) _ _ (ne_eqb (length mine.values) 4 (λ e. n (sym (length-column r c cells inside room) ∙ e))))

-- ---- the call, over any cells

module _ {V : Type 0} (rows : List Row) (cells : List V) (context : Context) (c : ℕ) (v : V) (r : Row) (inside : c < 24) (left : Remains rows context.tops c r) where
  abbrev o : Outcome Dot (State V)
  o = putting rows cells c context.tops v

  abbrev tried : Outcome Dot (State (Unit {0})) → Outcome Dot (State V)
  tried s = unless_refused s (in_room (roomy rows cells) (put c context.tops v (state rows cells)))

  pub leaves_8 : top_of r ≡ 999999 → Leaves rows cells o (Err CounterExhausted) rows cells
  leaves_8 t = leaves_refused rows cells o CounterExhausted (ap tried (put_8 rows (replicate 96 tt) context c tt r inside left (omega arith) t))

  pub leaves_7 : (top_of r ≡ 999999 → ⊥) → count_of r ≡ 4 → Leaves rows cells o (Err TooManySiblings) rows cells
  leaves_7 t n = leaves_refused rows cells o TooManySiblings (ap tried (put_7 rows (replicate 96 tt) context c tt r inside left (omega arith) t n))

  module _ (t : top_of r ≡ 999999 → ⊥) (n : count_of r ≡ 4 → ⊥) where
    told : o ≡ in_room (roomy rows cells) (put c context.tops v (state rows cells))
    told = ap tried (put_ok rows (replicate 96 tt) context c tt r inside left (omega arith) t n)

    pub leaves_9 : roomy rows cells ≡ false → Leaves rows cells o (Err ShortMemory) rows cells
    leaves_9 e = leaves_refused rows cells o ShortMemory (told ∙ cond-false (roomy rows cells) _ _ e)

    pub leaves_put : roomy rows cells ≡ true → 96 ≤ length cells → (k : ℕ) → k ≡ top_of r → (rows' : List Row) (cells' : List V) → state rows' cells' ≡ set (discard context.tops (state rows cells)) c (push v (column r (drop (4 * c) cells))) → drop 24 rows' ≡ drop 24 rows → drop 96 cells' ≡ drop 96 cells → Leaves rows cells o (Ok (record { column = c; counter = k + 1 })) rows' cells'
    leaves_put e room k is rows' cells' =
        leaves_accepted rows cells o _ _ rows' cells' (told ∙ cond-true (roomy rows cells) _ _ e ∙ put_ok rows cells context c v r inside left room t n ∙ ap (λ m. accepted (record { column = c; counter = m + 1 }) (set (discard context.tops (state rows cells)) c (push v (column r (drop (4 * c) cells))))) (sym is))
