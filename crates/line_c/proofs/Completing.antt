-- A line that names complete.
use Rattle.std.proofs.Common.{◌≡◌, ℕ, Bool, true, false, cond, List, Option, Some, None, Bor, IsUtf8, chars, encode_utf8_all, map, reverse, refl, sym, subst, ap, ◌∙◌}
use Rattle.std.proofs.lemmas.List.{reverse-reverse}
use Rattle.std.proofs.lemmas.Str.{encodes-chars}
use Rattle.std.specs.Str.Lines.{lines}
use Rattle.crossterm_types.specs.Seen.{Paste}
use Rattle.line_editor.specs.Bounds.{is_too_long, refusal_of}
use Rattle.line_editor.specs.Turns.{event_more, turned}
use Rattle.line_editor.specs.declared.fault.EditFault.TheVariants as fault
use Rattle.prompt.specs.Words.{completion, completion_among, word_at_end}
use Rattle.line_c.specs.Answers.{CompletesBy, CompletesLine, completed_by, fault_answer}
use Rattle.line_c.specs.Kept.{LineState}
use Rattle.line_c.specs.declared.answers.Answer.{Answer}
use Rattle.line_c.specs.declared.answers.Answer.TheVariants.{GoesOn}

module _ (k : LineState) (names before : List ℕ) (borrowed : List (Bor (List ℕ))) where
  -- What completes the word before the cursor, by names that are borrowed.
  completion_is : IsUtf8 before → reverse (chars before) ≡ k.editor.line.before → map (λ n. n.now) borrowed ≡ lines names
      → completion (word_at_end before) borrowed ≡ completion_among (word_at_end (encode_utf8_all (reverse k.editor.line.before))) (lines names)
  completion_is u b is =
      let front : before ≡ encode_utf8_all (reverse k.editor.line.before) = sym (encodes-chars before u) ∙ ap encode_utf8_all (sym (reverse-reverse (chars before)) ∙ ap reverse b) in
      ap (completion_among (word_at_end before)) is ∙ ap (λ t. completion_among (word_at_end t) (lines names)) front

  -- Nothing does.
  pub completes_none : (l : LineState) → IsUtf8 before → reverse (chars before) ≡ k.editor.line.before → map (λ n. n.now) borrowed ≡ lines names
      → None ≡ completion (word_at_end before) borrowed → l ≡ completed_by names k → CompletesLine names GoesOn k l
  completes_none l u b is none made = subst (λ (o : Option (List ℕ)). CompletesBy o names GoesOn k l) (none ∙ completion_is u b is) made

  module _ (text : List ℕ) (l : LineState) where
    -- A text was pasted.
    pub completes_some : IsUtf8 before → reverse (chars before) ≡ k.editor.line.before → map (λ n. n.now) borrowed ≡ lines names
        → Some text ≡ completion (word_at_end before) borrowed → is_too_long (event_more (Paste text) k.editor) k.editor ≡ false
        → l ≡ record (completed_by names k) { editor = turned (Paste text) k.editor } → CompletesLine names GoesOn k l
    completes_some u b is some fits made = subst (λ (o : Option (List ℕ)). CompletesBy o names GoesOn k l) (some ∙ completion_is u b is) (fits, made)

    refused_by : (long : Bool) → is_too_long (event_more (Paste text) k.editor) k.editor ≡ long → l ≡ k → CompletesBy (Some text) names (fault_answer (cond long fault.TooLong fault.Memory)) k l
    refused_by true is same = (is, same)
    refused_by false is same = same

    -- It was refused.
    pub completes_not : (a : Answer) → IsUtf8 before → reverse (chars before) ≡ k.editor.line.before → map (λ n. n.now) borrowed ≡ lines names
        → Some text ≡ completion (word_at_end before) borrowed → a ≡ fault_answer (refusal_of (event_more (Paste text) k.editor) k.editor) → l ≡ k → CompletesLine names a k l
    completes_not a u b is some names_fault same =
        subst (λ (o : Option (List ℕ)). CompletesBy o names a k l) (some ∙ completion_is u b is)
        (subst (λ (x : Answer). CompletesBy (Some text) names x k l) (sym names_fault) (refused_by (is_too_long (event_more (Paste text) k.editor) k.editor) refl same))
