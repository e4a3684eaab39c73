-- Two frames, one after the other, through rows and cells. Assumes nothing.
use Rattle.std.proofs.Common.{◌≡◌, ℕ, ◌≤◌, Bool, true, false, cond, ◌&&◌, eqb, leb, List, ◌++◌, length, drop, IfOk, IfErr, Ok, Err, Result, sym, refl, ap, ◌∙◌, arith}
use Rattle.std.proofs.lemmas.Bool.{cond-true, eq-eqb, le-leb, and_from}
use Rattle.refusals.specs.declared.Refusal.{Refusal}
use Rattle.refusals.specs.declared.Refusal.TheVariants.{NoSuchSeatOrKey, ShortMemory, Mismatch}
use Rattle.refusals.specs.Refusals.{offset}
use Rattle.values.specs.Layouts.{setting_bytes, setting_of}
use Rattle.values.specs.declared.setting.Setting.{Setting}
use Rattle.dvvset.specs.Clock.{State, accepted, after, answer, merge, no_writes, refused}
use Rattle.clock.specs.Calls.{in_room}
use Rattle.clock.specs.Memory.{roomy, state}
use Rattle.clock.specs.declared.rows.Row.{Row}
use Rattle.clock.proofs.Whole.{state_legal}
use Rattle.formats.specs.Frames.{frame, frame_length}
use Rattle.formats.specs.Reading.{Keyed, column_told, key_of, head, reading, rising}
use Rattle.formats.proofs.Offsets.{length_most, near_frame}
use Rattle.formats.proofs.Steps.{ok_same, then_ok}
use Rattle.cursor.proofs.Founds.{head_rest}
use Rattle.frames.specs.Taking.{accepting, writing_frame}
use Rattle.host.specs.Merging.{first_read, joined, laid, merging_frames, second_read}

-- a refusal of a check points into the frame
pub check_near : (bs : List ℕ) (e : Refusal) → Err e ≡ key_of (reading 16 setting_of bs) → offset e ≤ 1756
check_near bs e = go (reading 16 setting_of bs) refl
  where
    go : (r : Result (Keyed (State Setting)) Refusal) → reading 16 setting_of bs ≡ r → Err e ≡ key_of r → offset e ≤ 1756
    go (Ok k) is h = absurd (let z : ◌≡◌ {A = ℕ} 0 1 = cc in omega arith)
    go (Err x) is h = let p : x ≡ e = cc in omega (arith, near_frame 16 setting_of bs x is, ap offset p)

-- and so does that of a frame that is taken
pub taking_near : {S : Type 0} (bs : List ℕ) (room : Bool) (f : State Setting → S) (e : Refusal) → Err e ≡ answer (accepting room (reading 16 setting_of bs) f) → offset e ≤ 1756
taking_near {S} bs room f e = go (reading 16 setting_of bs) refl room
  where
    go : (r : Result (Keyed (State Setting)) Refusal) → reading 16 setting_of bs ≡ r → (b : Bool) → Err e ≡ answer (accepting b r f) → offset e ≤ 1756
    go (Ok k) is true h = absurd (let z : ◌≡◌ {A = ℕ} 0 1 = cc in omega arith)
    go (Ok k) is false h = let p : e ≡ ShortMemory = cc in omega (arith, ap offset p)
    go (Err x) is b h = let p : x ≡ e = cc in omega (arith, near_frame 16 setting_of bs x is, ap offset p)

-- what was read, where a frame was taken and there was room
pub taken : {S : Type 0} (bs : List ℕ) (room : Bool) (f : State Setting → S) (s t : S) (key : ℕ) → room ≡ true → Ok key ≡ answer (accepting room (reading 16 setting_of bs) f) → t ≡ after s (accepting room (reading 16 setting_of bs) f) → (k : Keyed (State Setting)) × (reading 16 setting_of bs ≡ Ok k) × (k.key ≡ key) × (t ≡ f k.what) × (key ≤ 15)
unfolding reading
taken {S} bs room f s t key yes-room = go (reading 16 setting_of bs) refl room yes-room
  where
    low : (k : Keyed (State Setting)) → reading 16 setting_of bs ≡ Ok k → k.key ≤ 15
    low k is =
        let u = then_ok (head 1 0 bs) _ k is in
        let v = then_ok (rising (column_told 16 setting_of) no_writes 24 0 4 u.0.rest) _ k u.2 in
        let h = head_rest 1 0 bs u.0 u.1 in
        omega (arith, h.low, ap (λ q. q.key) (ok_same v.2))

    go : (r : Result (Keyed (State Setting)) Refusal) → reading 16 setting_of bs ≡ r → (b : Bool) → b ≡ true → Ok key ≡ answer (accepting b r f) → t ≡ after s (accepting b r f) → (k : Keyed (State Setting)) × (r ≡ Ok k) × (k.key ≡ key) × (t ≡ f k.what) × (key ≤ 15)
    go (Ok k) is true y h e = let p : k.key ≡ key = cc in (k, refl, p, e, omega (arith, low k is))
    go (Ok k) is false y h e = absurd (let z : ◌≡◌ {A = ℕ} 0 1 = ap (λ b. cond b 1 0) y in omega arith)
    go (Err x) is b y h e = absurd (let z : ◌≡◌ {A = ℕ} 0 1 = cc in omega arith)

pub kept_room : (rows : List Row) (cells : List Setting) → length rows ≡ 24 → length cells ≡ 96 → roomy rows cells ≡ true
kept_room rows cells p q = and_from (leb 24 (length rows)) (leb 96 (length cells)) (le-leb 24 (length rows) (omega arith)) (le-leb 96 (length cells) (omega arith))

pub both_read : (first second out : List ℕ) (a b : Keyed (State Setting)) → reading 16 setting_of first ≡ Ok a → reading 16 setting_of second ≡ Ok b → merging_frames first second out ≡ joined a b out
both_read first second out a b is was = ap (λ r. first_read r (reading 16 setting_of second) out) is ∙ ap (λ r. second_read a r out) was

pub record Merged (first second out new : List ℕ) (r : Result ℕ Refusal) : Type 0 where
  pub answers : r ≡ answer (merging_frames first second out)
  pub memory : new ≡ after out (merging_frames first second out)
  pub most : IfOk r (λ n. n ≤ 1756)
  pub near : IfErr r (λ e. offset e ≤ 1756)

pub merged : (first second out new : List ℕ) (r : Result ℕ Refusal) (a b : Keyed (State Setting)) (key other : ℕ) (rows : List Row) (cells : List Setting) → reading 16 setting_of first ≡ Ok a → reading 16 setting_of second ≡ Ok b → a.key ≡ key → b.key ≡ other → key ≡ other → key ≤ 15 → roomy rows cells ≡ true → state rows cells ≡ merge a.what b.what →
    r ≡ answer (writing_frame 16 setting_bytes key rows cells out) → new ≡ after out (writing_frame 16 setting_bytes key rows cells out) → Merged first second out new r
merged first second out new r a b key other rows cells is was ka kb same low room S-is answers memory =
    record { answers = answers ∙ ap answer joins; memory = memory ∙ ap (after out) joins; most = (bound (leb (frame_length 16 (state rows cells)) (length out)) r (answers ∙ ap answer written)).0; near = (bound (leb (frame_length 16 (state rows cells)) (length out)) r (answers ∙ ap answer written)).1 }
  where
    written : writing_frame 16 setting_bytes key rows cells out ≡ laid key (state rows cells) out
    written = cond-true (leb key 15) _ (refused NoSuchSeatOrKey) (le-leb key 15 low) ∙ ap (λ q. in_room (q && leb (frame_length 16 (state rows cells)) (length out)) (accepted (frame_length 16 (state rows cells)) (frame setting_bytes key (state rows cells) ++ drop (frame_length 16 (state rows cells)) out))) room

    joins : writing_frame 16 setting_bytes key rows cells out ≡ merging_frames first second out
    joins =
        written ∙ ap (λ T. laid key T out) S-is ∙ ap (λ k. laid k (merge a.what b.what) out) (sym ka)
        ∙ sym (both_read first second out a b is was ∙ cond-true (eqb a.key b.key) (laid a.key (merge a.what b.what) out) (refused Mismatch) (eq-eqb a.key b.key (ka ∙ same ∙ sym kb)))

    bound : (q : Bool) (x : Result ℕ Refusal) → x ≡ answer (in_room q (accepted (frame_length 16 (state rows cells)) (frame setting_bytes key (state rows cells) ++ drop (frame_length 16 (state rows cells)) out))) → IfOk x (λ n. n ≤ 1756) × IfErr x (λ e. offset e ≤ 1756)
    bound true (Ok n) h = (let p : n ≡ frame_length 16 (state rows cells) = cc in omega (arith, length_most 16 (state rows cells) (state_legal rows cells), p), tt)
    bound true (Err e) h = absurd (let z : ◌≡◌ {A = ℕ} 0 1 = cc in omega arith)
    bound false (Ok n) h = absurd (let z : ◌≡◌ {A = ℕ} 0 1 = cc in omega arith)
    bound false (Err e) h = (tt, (let p : e ≡ ShortMemory = cc in omega (arith, ap offset p)))
