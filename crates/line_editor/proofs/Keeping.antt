-- What edits keep of a line's text.
use Rattle.std.proofs.Common.{◌≡◌, ℕ, ◌-◌, List, [], ◌∷◌, ◌++◌, length, reverse, take, refl, sym, ap, ◌∙◌, inl, inr, arith, append_assoc, take_at, length-append}
use Rattle.std.proofs.lemmas.Bool.{cases_Bool}
use Rattle.std.proofs.lemmas.List.{length-reverse, reverse-append, reverse-reverse}
use Rattle.unicode_segmentation.specs.Segments.{Rule}
use Rattle.line_editor.specs.declared.places.Target.{Target}
use Rattle.line_editor.specs.declared.places.Target.TheVariants.{Back, Forward}
use Rattle.line_editor.specs.Splits.{Split, ahead, last_stop, line_text}
use Rattle.line_editor.specs.Edits.{cut_text, reach_end, erased, from_to, inserted, line_with, start_of}
use Rattle.line_editor.specs.Laws.{CutsOut, KeepsText, WritesAt, YanksBack}
use Rattle.line_editor.specs.Places.{back_from, is_between, forward_from, stops}
use Rattle.line_editor.proofs.Stepping.{ahead_here}

-- One text, with the cursor at two places: this part is from the first to the second.
pub record IsFrom (p q : Split) (part : List ℕ) : Type 0 where
  pub before : q.before ≡ reverse part ++ p.before
  pub after : p.after ≡ part ++ q.after

pub IsFrom-none : (d : Split) → IsFrom d d []
IsFrom-none d = record { before = refl; after = refl }

-- One character more, at the front of the part.
pub IsFrom-one : (p q : Split) (c : ℕ) (part before : List ℕ) → IsFrom (record { before = c ∷ before; after = p.after }) q part
    → IsFrom (record { before = before; after = c ∷ p.after }) q (c ∷ part)
IsFrom-one p q c part before h = record {
  before = h.before ∙ sym (append_assoc (reverse part) (c ∷ []) before) ∙ ap (λ t. t ++ before) (sym (reverse-append (c ∷ []) part));
  after = ap (λ t. c ∷ t) h.after;
}

pub ahead-IsFrom : (r : Rule) (before after : List ℕ) → (part : List ℕ) × IsFrom (record { before = before; after = after }) (ahead r before after) part
ahead-IsFrom r before [] = ([], IsFrom-none _)
ahead-IsFrom r before (c ∷ after) =
    elim (cases_Bool (r before (c ∷ after))) [
      | inl here ↦ rw here ([], IsFrom-none _)
      | inr not_here ↦ rw not_here (
          let rest = ahead-IsFrom r (c ∷ before) after in
          (c ∷ rest.0, IsFrom-one (record { before = before; after = after }) _ c rest.0 before rest.1))
    ]

-- One character more, at the end of the part.
pub IsFrom-last : (p : Split) (c : ℕ) (part before after : List ℕ) → IsFrom p (record { before = before; after = c ∷ after }) part
    → IsFrom p (record { before = c ∷ before; after = after }) (part ++ c ∷ [])
IsFrom-last p c part before after h = record {
  before = ap (λ t. c ∷ t) h.before ∙ ap (λ t. t ++ p.before) (sym (reverse-append part (c ∷ [])));
  after = h.after ∙ sym (append_assoc part (c ∷ []) after);
}

pub behind-IsFrom : (r : Rule) (before after : List ℕ) → (part : List ℕ) × IsFrom (last_stop r before after) (record { before = before; after = after }) part
behind-IsFrom r [] after = ([], IsFrom-none _)
behind-IsFrom r (c ∷ before) after =
    elim (cases_Bool (r (c ∷ before) after)) [
      | inl here ↦ rw here ([], IsFrom-none _)
      | inr not_here ↦ rw not_here (
          let rest = behind-IsFrom r before (c ∷ after) in
          (rest.0 ++ c ∷ [], IsFrom-last _ c rest.0 before after rest.1))
    ]

back_from-IsFrom : (r : Rule) (before after : List ℕ) → (part : List ℕ) × IsFrom (back_from r before after) (record { before = before; after = after }) part
back_from-IsFrom r [] after = ([], IsFrom-none _)
back_from-IsFrom r (c ∷ before) after =
    let rest = behind-IsFrom r before (c ∷ after) in
    (rest.0 ++ c ∷ [], IsFrom-last _ c rest.0 before after rest.1)

forward_from-IsFrom : (r : Rule) (before after : List ℕ) → (part : List ℕ) × IsFrom (record { before = before; after = after }) (forward_from r before after) part
forward_from-IsFrom r before [] = ([], IsFrom-none _)
forward_from-IsFrom r before (c ∷ after) =
    let rest = ahead-IsFrom r (c ∷ before) after in
    (c ∷ rest.0, IsFrom-one (record { before = before; after = after }) _ c rest.0 before rest.1)

-- From the earlier to the later of the cursor and a target.
pub ends-IsFrom : (target : Target) (d : Split) → (part : List ℕ) × IsFrom (start_of target d) (reach_end target d) part
ends-IsFrom (Back stop) d = back_from-IsFrom (stops stop) d.before d.after
ends-IsFrom (Forward stop) d = forward_from-IsFrom (stops stop) d.before d.after

-- Both places have one text.
pub text_of-IsFrom : (p q : Split) (part : List ℕ) → IsFrom p q part → line_text q ≡ line_text p
text_of-IsFrom p q part h =
    ap (λ t. reverse t ++ q.after) h.before
    ∙ ap (λ t. t ++ q.after) (reverse-append (reverse part) p.before ∙ ap (λ t. reverse p.before ++ t) (reverse-reverse part))
    ∙ append_assoc (reverse p.before) part q.after
    ∙ ap (λ t. reverse p.before ++ t) (sym h.after)

pub keeps_text : (target : Target) (d : Split) → KeepsText target d
keeps_text (Back stop) d = let rest = back_from-IsFrom (stops stop) d.before d.after in sym (text_of-IsFrom _ _ rest.0 rest.1)
keeps_text (Forward stop) d = let rest = forward_from-IsFrom (stops stop) d.before d.after in text_of-IsFrom _ _ rest.0 rest.1

-- The text between both places is that part.
pub from_to-IsFrom : (p q : Split) (part : List ℕ) → IsFrom p q part → from_to p q ≡ part
from_to-IsFrom p q part h =
    let count : length part ≡ length q.before - length p.before =
    omega (arith, ap length h.before, length-append (reverse part) p.before, length-reverse part) in
    ap (take (length q.before - length p.before)) h.after ∙ take_at part q.after _ count

-- The cursor's way on to the end of its cluster keeps the text.
pub text_of-joined : (p : Split) (text : List ℕ) (q : Split) → line_text (line_with p text q) ≡ reverse p.before ++ (text ++ q.after)
text_of-joined p text q =
    let rest = ahead-IsFrom is_between (reverse text ++ p.before) q.after in
    text_of-IsFrom _ _ rest.0 rest.1
    ∙ ap (λ t. t ++ q.after) (reverse-append (reverse text) p.before ∙ ap (λ t. reverse p.before ++ t) (reverse-reverse text))
    ∙ append_assoc (reverse p.before) text q.after

pub cuts_out : (target : Target) (d : Split) → CutsOut target d
cuts_out target d =
    let ends = ends-IsFrom target d in
    let p = start_of target d in
    let q = reach_end target d in
    let part : cut_text target d ≡ ends.0 = from_to-IsFrom p q ends.0 ends.1 in
    let text : line_text d ≡ line_text p = start-text target d in
    record {
      was = text ∙ ap (λ t. reverse p.before ++ t) (ends.1.after ∙ ap (λ t. t ++ q.after) (sym part));
      stays = text_of-joined p [] q;
    }
  where
    start-text : (target : Target) (d : Split) → line_text d ≡ line_text (start_of target d)
    start-text (Back stop) d = sym (keeps_text (Back stop) d)
    start-text (Forward stop) d = refl

pub writes_at : (text : List ℕ) (d : Split) → WritesAt text d
writes_at text d = text_of-joined d text d

pub yanks_back : (target : Target) (d : Split) → YanksBack target d
yanks_back target d between =
    let p = start_of target d in
    let q = reach_end target d in
    let part = cut_text target d in
    let left : erased target d ≡ record { before = p.before; after = q.after } = ahead_here is_between p.before q.after between in
    ap (λ (x : Split). line_text (inserted part x)) left
    ∙ writes_at part (record { before = p.before; after = q.after })
    ∙ sym (cuts_out target d).was
