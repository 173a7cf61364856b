-- Texts that are written one behind another, as far as the writer goes.
use Rattle.std.proofs.Common.{ℕ, ◌++◌, [], List, Option, ap, append-nil, append_assoc, sym, ◌∙◌}
use Rattle.std.proofs.KnownBytes.{Appends-trans}
use Rattle.std.specs.Io.KnownBytes.{Appends}
use Rattle.crossterm_command.specs.Writing.{AppendsFront}

-- A beginning of the first text is one of both.
pub first_part : (old new : Option (List ℕ)) (a b : List ℕ) → AppendsFront old new a → AppendsFront old new (a ++ b)
first_part old new a b p = record { front = p.front; rest = p.rest ++ b; split = ap (λ t. t ++ b) p.split ∙ append_assoc p.front p.rest b; grown = p.grown }

-- So is the first one with a beginning of the second.
pub second_part : (old mid new : Option (List ℕ)) (a b : List ℕ) → Appends old mid a → AppendsFront mid new b → AppendsFront old new (a ++ b)
second_part old mid new a b whole p = record {
  front = a ++ p.front;
  rest = p.rest;
  split = ap (λ t. a ++ t) p.split ∙ sym (append_assoc a p.front p.rest);
  grown = Appends-trans old mid new a p.front whole p.grown;
}

-- All of a text is a beginning of it.
pub whole_part : (old new : Option (List ℕ)) (a : List ℕ) → Appends old new a → AppendsFront old new a
whole_part old new a whole = record { front = a; rest = []; split = sym (append-nil a); grown = whole }

-- Three texts of four that are written so, and the fourth or a beginning of it.
module _ (w0 w1 w2 w3 new : Option (List ℕ)) (a b c d : List ℕ) (first : Appends w0 w1 a) (second : Appends w1 w2 b) (third : Appends w2 w3 c) where
  pub all_four : Appends w3 new d → Appends w0 new (a ++ (b ++ (c ++ d)))
  all_four fourth = Appends-trans w0 w1 new a (b ++ (c ++ d)) first (Appends-trans w1 w2 new b (c ++ d) second (Appends-trans w2 w3 new c d third fourth))

  pub fourth_part : AppendsFront w3 new d → AppendsFront w0 new (a ++ (b ++ (c ++ d)))
  fourth_part part = second_part w0 w1 new a (b ++ (c ++ d)) first (second_part w1 w2 new b (c ++ d) second (second_part w2 w3 new c d third part))
