-- A read of a key into 1,756 bytes hands over the frame that slots hold. Assumes nothing.
use Rattle.std.proofs.Common.{◌≡◌, ℕ, zero, suc, ◌≤◌, List, [], ◌∷◌, ◌++◌, length, take, Some, None, Ok, Option, sym, refl, ap, arith}
use Rattle.std.specs.Option.{option_map}
use Rattle.std.specs.Result.{IsOk}
use Rattle.std.proofs.lemmas.List.{length-take}
use Rattle.std.proofs.lemmas.Bool.Decides.{nat_tests}
use Rattle.media.specs.Media.{handed, laid, told}
use Rattle.media.specs.Slots.{frame_in, frames_of}
use Rattle.media.specs.declared.slot.Slot.{Slot}
use Rattle.replay.proofs.Fronts.{front}

abbrev Short : Option (List ℕ) → Type 0
Short o = (f : List ℕ) → o ≡ Some f → length f ≤ 1756

slot_short : (s : Option Slot) → Short (option_map frame_in s)
slot_short None f e = cc
slot_short (Some s) f e = let is : take s.size s.bytes ≡ f = cc in omega (arith, ap length is, length-take s.size s.bytes, s.within)

slots_short : (ss : List (Option Slot)) (k : ℕ) → Short (frames_of ss k)
slots_short [] k f e = cc
slots_short (s ∷ ss) zero f e = slot_short s f e
slots_short (s ∷ ss) (suc k) f e = slots_short ss k f e

handed_whole : (key room : ℕ) (o : Option (List ℕ)) → key ≤ 15 → room ≡ 1756 → Short o → handed key o room ≡ Ok o
handed_whole key room None low r short = grind (arith, nat_tests)
handed_whole key room (Some f) low r short = let l = short f refl in grind (arith, nat_tests)

pub handed_is : (ss : List (Option Slot)) (key room : ℕ) → key ≤ 15 → room ≡ 1756 → handed key (frames_of ss key) room ≡ Ok (frames_of ss key)
handed_is ss key room low r = handed_whole key room (frames_of ss key) low r (slots_short ss key)

pub told_is : (o : Option (List ℕ)) → IsOk (told (Ok o))
told_is None = refl
told_is (Some f) = refl

pub told-none : (o : Option (List ℕ)) → Ok None ≡ told (Ok o) → None ≡ o
told-none None e = refl
told-none (Some f) e = cc

laid_front : (o : Option (List ℕ)) (n m : ℕ) (out new d : List ℕ) → Short o → m ≡ 1756 → Ok (Some n) ≡ told (Ok o) → new ≡ laid (Ok o) out → Some (take n (take m (new ++ d))) ≡ o
laid_front None n m out new d short r a b = cc
laid_front (Some f) n m out new d short r a b =
    let e : n ≡ length f = cc in
    rw b (ap Some (front n m f _ d (sym e) (omega (arith, short f refl))))

pub held : (ss : List (Option Slot)) (key n m : ℕ) (out new d : List ℕ) → m ≡ 1756 → Ok (Some n) ≡ told (Ok (frames_of ss key)) → new ≡ laid (Ok (frames_of ss key)) out → Some (take n (take m (new ++ d))) ≡ frames_of ss key
held ss key n m out new d = laid_front (frames_of ss key) n m out new d (slots_short ss key)
