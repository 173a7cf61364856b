use Rattle.std.proofs.Common.{◌≡◌, ◌++◌, ◌==◌, ℕ, Bool, true, false, List, [], ◌∷◌, inl, inr, subst, sym, ap, ◌∙◌, append-nil}
use lib.Utf8.{encodes, scalars}
use Rattle.std.proofs.lemmas.Bool.{and_from, and_parts, cases_Bool}
use Rattle.std.proofs.lemmas.Str.{chars-encodes, scalars-chars}
use Rattle.std.specs.List.{filter}
use Rattle.std.specs.Str.{chars}
use Rattle.line_editor.specs.Shown.{AreRows, begins_behind_gap, begins_with_feed, blanked, comes_in, is_gap, pasted_part, with_feeds}
use Rattle.line_editor.proofs.Showing.{all-rows, pasted-nothing, shown-filter}
use Rattle.line_editor.proofs.shown.pasted.Goals as goal

scalars-filter : (p : ℕ → Bool) (cs : List ℕ) → scalars cs ≡ true → scalars (filter p cs) ≡ true
scalars-filter p [] h = h
scalars-filter p (c ∷ cs) h =
    let parts = and_parts _ _ h in
    elim (cases_Bool (p c)) [
      | inl here ↦ rw here (and_from _ _ parts.0 (scalars-filter p cs parts.1))
      | inr not_here ↦ rw not_here (scalars-filter p cs parts.1)
    ]

scalars-blanked : (cs : List ℕ) → scalars cs ≡ true → scalars (blanked cs) ≡ true
scalars-blanked [] h = h
scalars-blanked (c ∷ cs) h =
    let parts = and_parts _ _ h in
    let rest = scalars-blanked cs parts.1 in
    elim (cases_Bool (is_gap c)) [
      | inl gap ↦ elim (cases_Bool (begins_behind_gap cs)) [
        | inl last ↦ rw (gap, last) rest
        | inr more ↦ rw (gap, more) rest
      ]
      | inr other ↦ rw other (and_from _ _ parts.0 rest)
    ]

scalars-fed : (cs : List ℕ) → scalars cs ≡ true → scalars (with_feeds cs) ≡ true
scalars-fed [] h = h
scalars-fed (c ∷ cs) h =
    let parts = and_parts _ _ h in
    let rest = scalars-fed cs parts.1 in
    elim (cases_Bool (c == 13)) [
      | inl end ↦ elim (cases_Bool (begins_with_feed cs)) [ inl more ↦ rw (end, more) rest | inr last ↦ rw (end, last) rest ]
      | inr not_here ↦ elim (cases_Bool (c == 9)) [ inl tab ↦ rw (not_here, tab) rest | inr other ↦ rw (not_here, other) (and_from _ _ parts.0 rest) ]
    ]

scalars-pasted : (multiline : Bool) (cs : List ℕ) → scalars cs ≡ true → scalars (pasted_part multiline cs) ≡ true
scalars-pasted false cs h = scalars-filter (comes_in false) (blanked cs) (scalars-blanked cs h)
scalars-pasted true cs h = scalars-filter (comes_in true) (with_feeds cs) (scalars-fed cs h)

pub returns-clause-text : goal.returns-clause-text
returns-clause-text g c =
    let m = c.args.multiline in
    let whole = c.loop-c.invariant.same ∙ ap (λ t. c.loop-c.new.bytes.items ++ encodes (pasted_part m t)) c.in_default.ensures
    ∙ ap (λ t. c.loop-c.new.bytes.items ++ encodes t) (pasted-nothing m) ∙ append-nil c.loop-c.new.bytes.items in
    ap chars (sym whole) ∙ chars-encodes (pasted_part m (chars c.args.text.now))
    (scalars-pasted m (chars c.args.text.now) (scalars-chars c.args.text.now c.utf8.text))

pub returns-clause-shown : goal.returns-clause-shown
returns-clause-shown g c =
    subst AreRows (sym (returns-clause-text g c)) (all-rows c.args.multiline (pasted_part c.args.multiline (chars c.args.text.now)) (shown-filter c.args.multiline _))
