-- What the file of a history grows by.
use Rattle.std.proofs.Common.{◌≡◌, ℕ, List, [], ◌∷◌, ◌++◌, length, suc, take, refl, inl, inr, ap, arith, sym}
use Rattle.std.proofs.KnownBytes.{Appends-nil}
use Rattle.std.specs.Prelude.{◌⊎◌, Err, Ok, OnErr, OnOk, Option, Result}
use Rattle.std.specs.Io.KnownBytes.{Keeps}
use Rattle.crossterm_command.specs.Writing.{AppendsFront}
use Rattle.prompt.proofs.Drawn.{kept}
use Rattle.prompt.specs.Histories.{EndsLastLine, EndsAndTakes, EndsAndTakesAll, LosesNone, TakesLines, appended, partly}

-- Nothing was taken.
pub none_taken : (old new : Option (List ℕ)) (before : List ℕ) → Keeps old new → TakesLines old new before before
none_taken old new before k = record {
  taken = 0;
  gone = 0;
  grown = kept old new k;
  few = omega arith;
  starts = inl refl;
  rest = refl;
}

-- Nothing was tried.
pub none_tried : (old : Option (List ℕ)) (before : List ℕ) → TakesLines old old before before
none_tried old before = record {
  taken = 0;
  gone = 0;
  grown = Appends-nil old;
  few = omega arith;
  starts = inl refl;
  rest = refl;
}

-- A beginning of a line feed is nothing or all of it.
front_of_one : (front rest : List ℕ) → 10 ∷ [] ≡ front ++ rest → (front ≡ []) ⊎ (front ≡ 10 ∷ [])
front_of_one [] rest e = inl refl
front_of_one (b ∷ []) rest e = inr (ap (take 1) (sym e))
front_of_one (b ∷ c ∷ front) rest e =
    let two : 1 ≡ suc (suc (length (front ++ rest))) = ap length e in
    absurd (omega (arith, two))

-- A file whose last line may have got its end.
pub ended_partly : (old new : Option (List ℕ)) → AppendsFront old new (10 ∷ []) → EndsLastLine old new
ended_partly old new p = (p.front, front_of_one p.front p.rest p.split, p.grown)

-- No byte is lost, whether all was taken or a part.
pub none_lost : {X E F : Type 0} (result : Result X E) (contents : F → Option (List ℕ)) (old new : F) (before after : List ℕ)
    → OnOk result (EndsAndTakesAll (contents old) (contents new) before after) → OnErr result (EndsAndTakes (contents old) (contents new) before after)
    → LosesNone contents before after
none_lost (Ok x) contents old new before after all part = appended old new all
none_lost (Err e) contents old new before after all part = partly old new part
