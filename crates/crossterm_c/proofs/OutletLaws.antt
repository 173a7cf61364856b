-- A text that is put into a slice by some calls is put in as one.
use Rattle.std.proofs.Common.{◌≡◌, ◌+◌, ◌-◌, ℕ, List, [], ◌∷◌, ◌++◌, take, drop, refl, ap, sym, ◌∙◌, subst, arith, append_assoc, append-nil}
use Rattle.std.proofs.lemmas.List.{drop-drop, length-append}
use Rattle.std.specs.Fmt.{WritesInCalls}
use Rattle.std.specs.List.{FoldsTo, concat}
use Rattle.crossterm_c.specs.Outlet.{Puts}

puts_none : (old : List ℕ) (m : ℕ) → Puts old m [] old m
puts_none old m = record { counted = omega arith; room = refl; front = λ l. sym (append-nil (take m old)); back = λ l. refl }

puts_join : (old mid new : List ℕ) (m k n : ℕ) (a b : List ℕ) → Puts old m a mid k → Puts mid k b new n → Puts old m (a ++ b) new n
puts_join old mid new m k n a b p q = record {
  counted = omega (arith, p.counted, q.counted, length-append a b);
  room = q.room ∙ p.room;
  front = λ l. q.front (omega (arith, p.room)) ∙ ap (λ (xs : List ℕ). xs ++ b) (p.front (omega (arith, q.counted))) ∙ append_assoc (take m old) a b;
  back = λ l.
      let more : n ≡ k + (n - k) = omega (arith, q.counted) in
      let same : drop k mid ≡ drop k old = p.back (omega (arith, q.counted)) in
      q.back (omega (arith, p.room)) ∙ ap (λ (i : ℕ). drop i mid) more ∙ sym (drop-drop (n - k) k mid) ∙ ap (λ (xs : List ℕ). drop (n - k) xs) same ∙ drop-drop (n - k) k old
      ∙ ap (λ (i : ℕ). drop i old) (sym more);
}

module _ {W X : Type 0} (name : W → X) (slice : W → List ℕ) (count : W → ℕ) where
  abbrev Took : W → List ℕ → W → Type 0
  Took s bytes t = (name t ≡ name s) × Puts (slice s) (count s) bytes (slice t) (count t)

  folds : (w : W) (parts : List (List ℕ)) (v : W) → FoldsTo Took w parts v → (name v ≡ name w) × Puts (slice w) (count w) (concat parts) (slice v) (count v)
  folds w [] v calls = (ap name (sym calls), subst (λ (x : W). Puts (slice w) (count w) [] (slice x) (count x)) calls (puts_none (slice w) (count w)))
  folds w (x ∷ parts) v calls =
      let rest = folds calls.0 parts v calls.2 in
      (rest.0 ∙ calls.1.0, puts_join (slice w) (slice calls.0) (slice v) (count w) (count calls.0) (count v) x (concat parts) calls.1.1 rest.1)

  pub puts_whole : (w : W) (bytes : List ℕ) (v : W) → WritesInCalls Took w bytes v → (name v ≡ name w) × Puts (slice w) (count w) bytes (slice v) (count v)
  puts_whole w bytes v calls =
      let all = folds w calls.parts v calls.calls in
      (all.0, subst (λ (bs : List ℕ). Puts (slice w) (count w) bs (slice v) (count v)) calls.whole all.1)
