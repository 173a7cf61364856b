-- Texts that are offered to a writer one after another are taken as their whole is.
use Rattle.std.proofs.Common.{◌≡◌, ℕ, List, [], ◌∷◌, ◌++◌, inl, inr, Option, None, Some, IfSome, Result, OnOk, Ok, refl, sym, ◌∙◌, subst, append-nil}
use Rattle.std.specs.Io.KnownBytes.{Appends, Keeps}
use Rattle.std.proofs.KnownBytes.{Appends-nil, Appends-trans, Keeps-refl, Keeps-trans}
use Rattle.std.specs.Fmt.{WritesInCalls}
use Rattle.std.specs.List.{FoldsTo, concat}
use Rattle.crossterm_command.specs.declared.fault.CommandFault.{CommandFault}
use Rattle.crossterm_command.specs.declared.fault.CommandFault.TheVariants.{Writer, Text, Both, Flush}
use Rattle.std.specs.declared.io.Error.{Error}
use Rattle.std.specs.IoError.{error_kind}
use Rattle.crossterm_command.specs.Faults.{Answers, Stopped, Unsent}
use Rattle.crossterm_command.specs.Writing.{AppendsFront, AppendsFrontOfText, AppendsText, Stops, WriterTakes, Writes}
use Rattle.crossterm_command.proofs.Rows.{front_of_first, front_of_second}
use Rattle.crossterm_command.proofs.Texts.{in_calls}

appends_keeps : (a b c : Option (List ℕ)) (bs : List ℕ) → Appends a b bs → Keeps b c → Appends a c bs
appends_keeps None b c bs p q = tt
appends_keeps (Some x) None c bs p q = absurd p
appends_keeps (Some x) (Some y) None bs p q = absurd q
appends_keeps (Some x) (Some y) (Some z) bs p q = q ∙ p

takes_nothing : {E : Type 0} (a : Option (List ℕ)) (f : Option E) → WriterTakes a f [] a f
takes_nothing a None = Appends-nil a
takes_nothing a (Some e) = Keeps-refl a

takes_both : {E : Type 0} (a b c : Option (List ℕ)) (f g h : Option E) (bs cs : List ℕ) → WriterTakes a f bs b g → WriterTakes b g cs c h → WriterTakes a f (bs ++ cs) c h
takes_both a b c None None None bs cs p q = Appends-trans a b c bs cs p q
takes_both a b c None None (Some e) bs cs p q = front_of_second a b c bs cs p q
takes_both a b c None (Some d) None bs cs p q = absurd q
takes_both a b c None (Some d) (Some e) bs cs p q =
    let both = front_of_first a b bs cs p in
    record { front = both.front; rest = both.rest; split = both.split; grown = appends_keeps a b c both.front both.grown q }
takes_both a b c (Some d) None h bs cs p q = absurd p
takes_both a b c (Some d) (Some e) None bs cs p q = absurd q
takes_both a b c (Some d) (Some e) (Some f) bs cs p q = Keeps-trans a b c p q

module _ {W N E : Type 0} (name : W → N) (held : W → Option (List ℕ)) (fault : W → Option E) where
  abbrev pub Took : W → List ℕ → W → Type 0
  Took s bs t = (name t ≡ name s) × WriterTakes (held s) (fault s) bs (held t) (fault t)

  took_parts : (w : W) (parts : List (List ℕ)) (v : W) → FoldsTo Took w parts v → Took w (concat parts) v
  took_parts w [] v p = subst (Took w []) p (refl, takes_nothing (held w) (fault w))
  took_parts w (x ∷ xs) v p =
      let rest = took_parts p.0 xs v p.2 in
      (rest.0 ∙ p.1.0, takes_both _ _ _ _ _ _ x (concat xs) p.1.1 rest.1)

  pub took_whole : (w : W) (bs : List ℕ) (v : W) → WritesInCalls Took w bs v → Took w bs v
  took_whole w bs v p = subst (λ l. Took w l v) p.whole (took_parts w p.parts v p.calls)

  -- the same of a command's text, by the fault that there is then
  pub took_text : (w : W) (text : Option (List ℕ)) (v : W) (f : Option E) → fault v ≡ f → Writes Took w text v
      → IfSome text (λ bs. (name v ≡ name w) × WriterTakes (held w) (fault w) bs (held v) f)
  took_text w None v f is p = tt
  took_text w (Some bs) v f is p = subst (λ g. (name v ≡ name w) × WriterTakes (held w) (fault w) bs (held v) g) is (took_whole w bs v (in_calls Took w bs v p))

-- if a fact follows for the text that is there
pub if_some_weaken : (o : Option (List ℕ)) (P Q : List ℕ → Type 0) → ((bs : List ℕ) → P bs → Q bs) → IfSome o P → IfSome o Q
if_some_weaken None P Q k x = tt
if_some_weaken (Some a) P Q k x = k a x

pub at_ok : {X E : Type 0} {r : Result X E} {x : X} {P : Type 0} → r ≡ Ok x → OnOk r P → P
at_ok {X} {E} {r} {x} {P} e p = subst (λ r. OnOk r P) e p

-- Whoever failed, the command was stopped.
pub stopped_at : (fault : CommandFault) (e : Error) (text : Option (List ℕ)) (failed : Type 0) (old new : Option (List ℕ)) → Answers fault e → Stopped fault text failed old new → Stops (error_kind e) text failed old new
stopped_at (Writer d) e text failed old new a p = record { front = λ _. p; cause = inl p }
stopped_at Text e text failed old new a p = record { front = λ n. absurd (n a); cause = inr p }
stopped_at (Both d) e text failed old new a p = record { front = λ n. absurd (n a); cause = inr p }
stopped_at (Flush d) e text failed old new a p = absurd p

-- The whole of a text is a beginning of it.
front_whole : (text : Option (List ℕ)) (old new : Option (List ℕ)) → AppendsText old new text → AppendsFrontOfText old new text
front_whole text old new p = if_some_weaken text (Appends old new) (AppendsFront old new) (λ bs q. record { front = bs; rest = []; split = sym (append-nil bs); grown = q }) p

pub unsent_at : (fault : CommandFault) (e : Error) (text : Option (List ℕ)) (failed : Type 0) (old new : Option (List ℕ)) → Answers fault e → Unsent fault text failed old new → Stops (error_kind e) text failed old new
unsent_at (Writer d) e text failed old new a p = stopped_at (Writer d) e text failed old new a p
unsent_at Text e text failed old new a p = stopped_at Text e text failed old new a p
unsent_at (Both d) e text failed old new a p = stopped_at (Both d) e text failed old new a p
unsent_at (Flush d) e text failed old new a p = let front = front_whole text old new p in record { front = λ _. front; cause = inl front }
