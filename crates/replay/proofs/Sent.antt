-- The memory of a send always holds the frame. Assumes nothing.
use Rattle.std.proofs.Common.{◌≡◌, ℕ, ◌≤◌, List, ◌++◌, length, take, drop, Ok, Result, lit≤, w32, refl, sym, ap, ◌∙◌, arith}
use Rattle.std.proofs.lemmas.List.{length-append, take_at}
use Rattle.std.proofs.lemmas.Bool.{le-leb}
use Rattle.refusals.specs.declared.Refusal.{Refusal}
use Rattle.values.specs.Layouts.{SettingFits, setting_bytes, setting_of}
use Rattle.values.specs.BigEndian.{signed_to_bytes}
use Rattle.values.specs.LayoutsLemmas.{setting_back, setting_fits, setting_forth}
use Rattle.values.specs.declared.setting.Setting.{Setting}
use Rattle.dvvset.specs.Clock.{accepted, answer, after}
use Rattle.clock.proofs.Whole.{state_legal}
use Rattle.formats.specs.Frames.{frame, frame_length}
use Rattle.formats.specs.OneFrame.{Fit}
use Rattle.formats.proofs.Codes.{Code}
use Rattle.formats.proofs.Offsets.{length_most}
use Rattle.formats.proofs.Theorem.{one_frame_lem}
use Rattle.frames.specs.Taking.{writing_frame}
use Rattle.replay.specs.Keys.{meaning}
use Rattle.replay.specs.declared.cockpit.KeyState.{KeyState}

setting_fills : (s : Setting) → SettingFits s → length (setting_bytes s) ≡ 16
setting_fills s h = omega (arith, length-append (signed_to_bytes w32 s.measure) s.label, h.1)

setting_code : Code 16 setting_bytes setting_of SettingFits
setting_code = record { most = lit≤ tt; fills = setting_fills; back = setting_back; forth = setting_forth; fits = setting_fits }

module _ (k : KeyState) (rows : length k.rows ≡ 24) (cells : length k.cells ≡ 96) (key : ℕ) (low : key ≤ 15) (out : List ℕ) (long : length out ≡ 1756) where
  abbrev size : ℕ
  size = frame_length 16 (meaning k)

  short : size ≤ 1756
  short = length_most 16 (meaning k) (state_legal k.rows k.cells)

  pub writing_is : writing_frame 16 setting_bytes key k.rows k.cells out ≡ accepted size (frame setting_bytes key (meaning k) ++ drop size out)
  writing_is =
      rw (le-leb key 15 low, le-leb 24 (length k.rows) (omega arith), le-leb 96 (length k.cells) (omega arith), le-leb size (length out) (omega (arith, short))) refl

  pub sent : (n : ℕ) (new : List ℕ) → Ok n ≡ answer (writing_frame 16 setting_bytes key k.rows k.cells out) → new ≡ after out (writing_frame 16 setting_bytes key k.rows k.cells out) → Fit SettingFits (meaning k) → (n ≡ size) × (new ≡ frame setting_bytes key (meaning k) ++ drop n out) × (take n new ≡ frame setting_bytes key (meaning k))
  sent n new a b fit =
      let size-is : n ≡ size = (let h : ◌≡◌ {A = Result ℕ Refusal} (Ok n) (Ok size) = a ∙ ap answer writing_is in cc) in
      let long : length (frame setting_bytes key (meaning k)) ≡ size = (one_frame_lem setting_code).long key (meaning k) (state_legal k.rows k.cells) fit in
      let is : new ≡ frame setting_bytes key (meaning k) ++ drop n out = b ∙ ap (after out) writing_is ∙ ap (λ m. frame setting_bytes key (meaning k) ++ drop m out) (sym size-is) in
      (size-is, is, rw is (take_at (frame setting_bytes key (meaning k)) (drop n out) n (long ∙ sym size-is)))
