use Rattle.std.proofs.Common.{◌≡◌, ℕ, ◌≤◌, Bool, true, false, cond, leb, List, ◌++◌, length, take, drop, Ok, Err, Result, ap, ◌∙◌, arith, le-leb}
use Rattle.refusals.specs.declared.Refusal.{Refusal}
use Rattle.refusals.specs.declared.Refusal.TheVariants.{ShortMemory}
use Rattle.std.proofs.lemmas.List.{length-append, take_at}
use Rattle.values.specs.Memory.{in_memory}
use Rattle.values_tests.proofs.there_and_back.Goals as goal

-- memory that was written in full gives the bytes back
module _ {V : Type 0} (width : ℕ) (memory after bs : List ℕ) (value_of : List ℕ → V) (v : V) (r : Result V Refusal) where
  come_back : (room : Bool) → ◌≡◌ {A = Result (Unit {0}) Refusal} (Ok tt) (cond room (Ok tt) (Err ShortMemory)) → after ≡ cond room (bs ++ drop width memory) memory → length bs ≡ width → value_of bs ≡ v → r ≡ in_memory width after (value_of (take width after)) → r ≡ cond room (Ok v) (Err ShortMemory)
  come_back true ok stored long back read =
      let fits : width ≤ length after = omega (arith, ap length stored, length-append bs (drop width memory)) in
      let test = le-leb width (length after) fits in
      let front = ap (take width) stored ∙ take_at bs (drop width memory) width long in
      cc
  come_back false ok stored long back read = let never : ◌≡◌ {A = ℕ} 0 1 = cc in absurd (omega arith)

pub returns : goal.returns
returns g c =
    let v = c.args.v.now in
    let memory = c.args.memory.now in
    let wrote = c.in_ok-write_value.ensures in
    let bs = g.V.Value.bytes_of v in
    let long = g.met.V.Value.fills v wrote.valid in
    let back = g.met.V.Value.back v wrote.valid in
    record {
      answer = come_back g.V.Value.width memory c.write_value.new.out bs g.V.Value.value_of v c.read_value.result (leb g.V.Value.width (length memory)) wrote.answer wrote.memory long back c.read_value.ensures.answer;
      memory = wrote.memory;
    }
