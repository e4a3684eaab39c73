-- One save more. Assumes nothing.
use Rattle.std.proofs.Common.{◌≡◌, ℕ, ◌+◌, ◌-◌, ◌<◌, ◌≤◌, Bool, true, false, cond, ◌&&◌, eqb, List, [], ◌∷◌, ◌++◌, length, get_or, take, set, Some, None, Ok, Err, Option, Result, is_ok, sym, refl, ap, ◌∙◌, subst, arith}
use Rattle.std.proofs.lemmas.List.{take_all, length-take-le, take_more, take_more_set}
use Rattle.std.proofs.lemmas.Bool.{and_parts, false≢true}
use Rattle.std.specs.List.{AllByRecursion}
use Rattle.std.specs.Option.{option_map, option_or}
use Rattle.media.specs.declared.orders.Order.{Order}
use Rattle.refusals.specs.declared.Refusal.{Refusal}
use Rattle.media.specs.Media.{Frames, admitted}
use Rattle.media.specs.Runs.{Tried, tried, tried_all, took, all_took, reply, last_where, last_accepted, Answered, AllAnswered, Ran, Done}
use Rattle.media.proofs.Frames.{bounds}

-- ---- what was tried, and one more

tried-push : (frames : List ℕ) (os : List Order) (answers : List (Result ℕ Refusal)) (o : Order) (a : Result ℕ Refusal) → length os ≡ length answers → tried_all frames (os ++ o ∷ []) (answers ++ a ∷ []) ≡ tried_all frames os answers ++ tried frames o a ∷ []
tried-push frames [] [] o a e = refl
tried-push frames [] (b ∷ answers) o a e = absurd (omega arith)
tried-push frames (p ∷ os) [] o a e = absurd (omega arith)
tried-push frames (p ∷ os) (b ∷ answers) o a e = ap (λ ts. tried frames p b ∷ ts) (tried-push frames os answers o a (omega arith))

pub tried_more : (frames : List ℕ) (os : List Order) (answers : List (Result ℕ Refusal)) (i : ℕ) (o : Order) (a : Result ℕ Refusal) → i < length os → i < length answers → tried_all frames (take (i + 1) os) (take (i + 1) (set answers i a)) ≡ tried_all frames (take i os) (take i answers) ++ tried frames (get_or os i o) a ∷ []
tried_more frames os answers i o a h k =
    let p = take_more os i o h in
    let q = take_more_set answers i a k in
    let l = length-take-le i os (omega arith) in
    let m = length-take-le i answers (omega arith) in
    ap (λ xs. tried_all frames xs (take (i + 1) (set answers i a))) p ∙ ap (tried_all frames (take i os ++ get_or os i o ∷ [])) q ∙ tried-push frames (take i os) (take i answers) (get_or os i o) a (l ∙ sym m)

cut : (frames : List ℕ) (os : List Order) (answers : List (Result ℕ Refusal)) → tried_all frames os (take (length os) answers) ≡ tried_all frames os answers
cut frames [] answers = refl
cut frames (o ∷ os) [] = refl
cut frames (o ∷ os) (a ∷ answers) = ap (λ ts. tried frames o a ∷ ts) (cut frames os answers)

pub tried_end : (frames : List ℕ) (os : List Order) (answers : List (Result ℕ Refusal)) (i : ℕ) → i ≡ length os → tried_all frames (take i os) (take i answers) ≡ tried_all frames os answers
tried_end frames os answers i e = ap (λ xs. tried_all frames xs (take i answers)) (take_all i os (omega arith)) ∙ ap (λ m. tried_all frames os (take m answers)) e ∙ cut frames os answers

answered_push : (left : ℕ) (ts : List Tried) (t : Tried) (here : ℕ) → left - all_took ts ≡ here → AllAnswered left ts → Answered here t → AllAnswered left (ts ++ t ∷ [])
answered_push left [] t here e g h = let P : ℕ → Type 0 = λ n. Answered n t in let is : here ≡ left = omega arith in (subst P is h, tt)
answered_push left (s ∷ ts) t here e g h = (g.0, answered_push (left - took s.answer) ts t here (omega arith) g.1 h)

took-push : (ts : List Tried) (t : Tried) → all_took (ts ++ t ∷ []) ≡ all_took ts + took t.answer
took-push [] t = omega arith
took-push (s ∷ ts) t = omega (arith, took-push ts t)

pub last_push : {A : Type 0} (test : A → Bool) (xs : List A) (x : A) → last_where test (xs ++ x ∷ []) ≡ cond (test x) (Some x) (last_where test xs)
last_push test [] x = refl
last_push test (y ∷ xs) x = ap (λ o. option_or o (cond (test y) (Some y) None)) (last_push test xs x) ∙ either (test x)
  where
    either : (b : Bool) → option_or (cond b (Some x) (last_where test xs)) (cond (test y) (Some y) None) ≡ cond b (Some x) (last_where test (y ∷ xs))
    either true = refl
    either false = refl

one_last : {A B : Type 0} (f : A → B) (b : Bool) (x : A) (last : Option A) (before : Option B) → option_or (option_map f (cond b (Some x) None)) (option_or (option_map f last) before) ≡ option_or (option_map f (cond b (Some x) last)) before
one_last f true x last before = refl
one_last f false x last before = refl

-- of this key, and accepted
abbrev counts : ℕ → Tried → Bool
counts k t = eqb k t.key && is_ok t.answer

pub ran_none : (newest : Frames) (left : ℕ) → Ran newest left [] newest left
ran_none newest left = record { answered = tt; frames = λ k. refl; falls = omega arith }

pub ran_more : {newest newest' newest'' : Frames} {left left' left'' : ℕ} {ts : List Tried} {t : Tried} → Ran newest left ts newest' left' → Done newest' left' t newest'' left'' → Ran newest left (ts ++ t ∷ []) newest'' left''
ran_more {newest} {newest'} {newest''} {left} {left'} {left''} {ts} {t} r d =
    record {
      answered = answered_push left ts t left' (omega (arith, r.falls)) r.answered d.answered.0;
      frames = λ k.
          d.frames k
          ∙ ap (option_or (last_accepted k (t ∷ []))) (r.frames k)
          ∙ one_last (λ t. t.frame) (counts k t) t (last_where (counts k) ts) (newest k)
          ∙ ap (λ o. option_or (option_map (λ t. t.frame) o) (newest k)) (sym (last_push (counts k) ts t));
      falls = omega (arith, r.falls, d.falls, took-push ts t);
    }

-- ---- what was accepted is not short

pub last_found : {A : Type 0} (test : A → Bool) (Q : A → Type 0) (xs : List A) → AllByRecursion (λ y. test y ≡ true → Q y) xs → (x : A) → last_where test xs ≡ Some x → Q x
last_found test Q [] g x e = absurd (let z : ◌≡◌ {A = ℕ} 0 1 = cc in omega arith)
last_found {A} test Q (y ∷ ys) g x e = go (last_where test ys) refl (test y) refl e (last_found test Q ys g.1)
  where
    go : (o : Option A) → last_where test ys ≡ o → (b : Bool) → test y ≡ b → option_or o (cond b (Some y) None) ≡ Some x → ((x : A) → last_where test ys ≡ Some x → Q x) → Q x
    go (Some z) is b t e more = more x (is ∙ e)
    go None is true t e more = let same : y ≡ x = cc in subst Q same (g.0 t)
    go None is false t e more = absurd (let z : ◌≡◌ {A = ℕ} 0 1 = cc in omega arith)

accepted_some : (left : ℕ) (t : Tried) → Answered left t → is_ok t.answer ≡ true → 4 ≤ length t.frame
accepted_some left t a was = go t.answer was a.0
  where
    go : (x : Result ℕ Refusal) → is_ok x ≡ true → reply x ≡ admitted t.key (length t.frame) left → 4 ≤ length t.frame
    go (Ok n) y e = (bounds t.key (length t.frame) left e).some
    go (Err r) y e = absurd (false≢true y)

all_some : (k left : ℕ) (ts : List Tried) → AllAnswered left ts → AllByRecursion (λ t. counts k t ≡ true → 4 ≤ length t.frame) ts
all_some k left [] a = tt
all_some k left (t ∷ ts) a = (λ c. accepted_some left t a.0 (and_parts (eqb k t.key) (is_ok t.answer) c).1, all_some k (left - took t.answer) ts a.1)

pub mapped-found : {A B : Type 0} (f : A → B) (Q : B → Type 0) (o : Option A) → ((x : A) → o ≡ Some x → Q (f x)) → (y : B) → option_map f o ≡ Some y → Q y
mapped-found f Q None h y e = absurd (let z : ◌≡◌ {A = ℕ} 0 1 = cc in omega arith)
mapped-found f Q (Some x) h y e = let same : f x ≡ y = cc in subst Q same (h x refl)

-- after a run, a frame that is not short is none that stood before, or not short either
pub ran_some : {newest newest' : Frames} {left left' : ℕ} {ts : List Tried} → Ran newest left ts newest' left' → (k : ℕ) → ((f : List ℕ) → newest k ≡ Some f → 4 ≤ length f) → (f : List ℕ) → newest' k ≡ Some f → 4 ≤ length f
ran_some {newest} {newest'} {left} {left'} {ts} r k before f e = go (last_accepted k ts) refl (sym (r.frames k) ∙ e)
  where
    go : (o : Option (List ℕ)) → last_accepted k ts ≡ o → option_or o (newest k) ≡ Some f → 4 ≤ length f
    go None is e = before f e
    go (Some g) is e =
        let Q : List ℕ → Type 0 = λ f. 4 ≤ length f in
        mapped-found (λ t. t.frame) Q (last_where (counts k) ts) (last_found (counts k) (λ t. 4 ≤ length t.frame) ts (all_some k left ts r.answered)) f (is ∙ e)
