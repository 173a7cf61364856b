-- Texts that are written one after another are written as one.
use Rattle.std.proofs.Common.{◌≡◌, ◌⊎◌, inl, inr, ℕ, List, [], ◌∷◌, ◌++◌, Option, Some, None, Result, Ok, Err, OnOk, refl, sym, subst, ap, ◌∙◌, append_assoc, append-nil}
use Rattle.std.specs.declared.fmt.Formatter.{Formatter}
use Rattle.std.specs.declared.fmt.Error.{Error}
use Rattle.std.specs.Fmt.{WritesInCalls, WritesText, HasWritten, IsPlainFormatter, DisplaysOnOk, option_append}
use Rattle.std.specs.List.{FoldsTo, concat}
use Rattle.crossterm_command.specs.Tokens.{Token, text_of}
use Rattle.crossterm_command.specs.Writing.{Writes}
use Rattle.crossterm_command.proofs.Readings.{text_joined}

concat_joined : (xs ys : List (List ℕ)) → concat (xs ++ ys) ≡ concat xs ++ concat ys
concat_joined [] ys = refl
concat_joined (x ∷ xs) ys = ap (λ l. x ++ l) (concat_joined xs ys) ∙ sym (append_assoc x (concat xs) (concat ys))

module _ {W : Type 0} (took : W → List ℕ → W → Type 0) where
  folds_joined : (w : W) (xs : List (List ℕ)) (v : W) (ys : List (List ℕ)) (u : W) → FoldsTo took w xs v → FoldsTo took v ys u → FoldsTo took w (xs ++ ys) u
  folds_joined w [] v ys u p q = let R : W → Type 0 = λ x. FoldsTo took x ys u in subst R (sym p) q
  folds_joined w (x ∷ xs) v ys u p q = (p.0, p.1, folds_joined p.0 xs v ys u p.2 q)

  -- no call writes nothing
  pub writes_nothing : (w : W) → WritesInCalls took w [] w
  writes_nothing w = record { parts = []; calls = refl; whole = refl }

  -- one call writes its text
  pub writes_at_once : (w : W) (bs : List ℕ) (v : W) → took w bs v → WritesInCalls took w bs v
  writes_at_once w bs v gives = record { parts = bs ∷ []; calls = (v, gives, refl); whole = append-nil bs }

  -- a text of several calls, or of one, was written in calls
  pub in_calls : (w : W) (bs : List ℕ) (v : W) → WritesInCalls took w bs v ⊎ took w bs v → WritesInCalls took w bs v
  in_calls w bs v (inl p) = p
  in_calls w bs v (inr gives) = writes_at_once w bs v gives

  pub text_in_calls : (w : W) (o : Option (List ℕ)) (v : W) → Writes took w o v → WritesText took w o v
  text_in_calls w None v p = tt
  text_in_calls w (Some bs) v p = in_calls w bs v p

  -- the same if a call was Ok
  pub ok_in_calls : (r : Result (Unit {0}) Error) (w : W) (o : Option (List ℕ)) (v : W) → OnOk r (Writes took w o v) → OnOk r (WritesText took w o v)
  ok_in_calls (Ok x) w o v p = text_in_calls w o v p
  ok_in_calls (Err e) w o v p = tt

  -- what was written in calls was written
  pub text_writes : (w : W) (o : Option (List ℕ)) (v : W) → WritesText took w o v → Writes took w o v
  text_writes w None v p = tt
  text_writes w (Some bs) v p = inl p

  -- two texts in a row
  pub writes_both : (w : W) (a : List ℕ) (v : W) (b : List ℕ) (u : W) → WritesInCalls took w a v → WritesInCalls took v b u → WritesInCalls took w (a ++ b) u
  writes_both w a v b u p q = record {
    parts = p.parts ++ q.parts;
    calls = folds_joined w p.parts v q.parts u p.calls q.calls;
    whole = concat_joined p.parts q.parts ∙ ap (λ l. l ++ concat q.parts) p.whole ∙ ap (λ l. a ++ l) q.whole;
  }

  -- the texts of tokens in a row
  pub says_both : (w : W) (ts : List Token) (v : W) (us : List Token) (u : W) → WritesInCalls took w (text_of ts) v → WritesInCalls took v (text_of us) u → WritesInCalls took w (text_of (ts ++ us)) u
  says_both w ts v us u p q = subst (λ l. WritesInCalls took w l u) (sym (text_joined ts us)) (writes_both w (text_of ts) v (text_of us) u p q)

  -- the same if either may say nothing
  pub text_of_both : (w : W) (o : Option (List ℕ)) (v : W) (p : Option (List ℕ)) (u : W) → WritesText took w o v → WritesText took v p u → WritesText took w (option_append o p) u
  text_of_both w None v p u x y = tt
  text_of_both w (Some a) v None u x y = tt
  text_of_both w (Some a) v (Some b) u x y = writes_both w a v b u x y

  -- a text was written, and after it another if a call was Ok
  pub ok_both : (r : Result (Unit {0}) Error) (w : W) (o : Option (List ℕ)) (v : W) (p : Option (List ℕ)) (u : W) → Writes took w o v → OnOk r (Writes took v p u)
      → OnOk r (Writes took w (option_append o p) u)
  ok_both (Ok x) w o v p u first last = text_writes w (option_append o p) u (text_of_both w o v p u (text_in_calls w o v first) (text_in_calls v p u last))
  ok_both (Err e) w o v p u first last = tt

  -- ---- a command on a formatter

  abbrev pub Step : Formatter W → List ℕ → Formatter W → Type 0
  Step s bs t = IsPlainFormatter s → HasWritten took s bs t

  formatted : (f : Formatter W) (parts : List (List ℕ)) (g : Formatter W) → FoldsTo Step f parts g → IsPlainFormatter f → HasWritten took f (concat parts) g
  formatted f [] g p plain = let R : Formatter W → Type 0 = λ x. HasWritten took f [] x in
      subst R p (record { wrote = record { parts = []; calls = refl; whole = refl }; plain = plain })
  formatted f (x ∷ xs) g (mid, step, more) plain =
      let first = step plain in
      let rest = formatted mid xs g more first.plain in
      record { wrote = writes_both f.writer x mid.writer (concat xs) g.writer first.wrote rest.wrote; plain = rest.plain }

  -- What a command writes on a formatter is what a `Display` by that text writes.
  pub displays_text : (f : Formatter W) (o : Option (List ℕ)) (r : Result (Unit {0}) Error) (g : Formatter W) → OnOk r (WritesText Step f o g) → DisplaysOnOk took f r o g
  displays_text f None r g p = tt
  displays_text f (Some bs) (Ok x) g p = λ plain ok. let R : List ℕ → Type 0 = λ l. HasWritten took f l g in subst R p.whole (formatted f p.parts g p.calls plain)
  displays_text f (Some bs) (Err e) g p = λ plain ok. cc
