-- Strokes that are put behind others.
use Rattle.std.proofs.Common.{◌≡◌, ℕ, Bool, List, [], ◌∷◌, ◌++◌, Option, Some, None, refl, sym, ap, ◌∙◌, subst, append_assoc, append-nil}
use Rattle.std.specs.Io.KnownBytes.{Appends}
use Rattle.std.proofs.KnownBytes.{Appends-nil, Appends-trans}
use Rattle.std.proofs.lemmas.List.Concat.{flat_map-append}
use Rattle.crossterm_command.specs.Tokens.{text_of}
use Rattle.crossterm_command.specs.Writing.{AppendsFront}
use Rattle.crossterm_command.specs.declared.color_output.ColorOutput.{ColorOutput}
use Rattle.crossterm_command.specs.declared.fault.CommandFault.{CommandFault}
use Rattle.crossterm_command.proofs.Readings.{text_joined}
use Rattle.crossterm_command.proofs.Rows.{front_of_first, front_of_second}
use Rattle.screen.specs.declared.pens.Pen.{Pen}
use Rattle.screen.specs.declared.strokes.Stroke.{Stroke}
use Rattle.screen.specs.inside.Pens.{Breaks, Ends, PassesOn, PutsStrokes, PutsText}
use Rattle.screen.specs.inside.Strokes.{written, written_of}

-- ---- texts

abbrev Known : Type 0
Known = Option (List ℕ)

pub passes_none : (u : List ℕ) (f : Option CommandFault) (a : Known) → PassesOn u f [] a a u f
passes_none u None a = ([], append-nil u, Appends-nil a)
passes_none u (Some e) a = refl

pub passes_both : (u v w : List ℕ) (f g h : Option CommandFault) (s t : List ℕ) (a b c : Known) → PassesOn u f s a b v g → PassesOn v g t b c w h → PassesOn u f (s ++ t) a c w h
passes_both u v w None None None s t a b c p q = (
  p.0 ++ q.0,
  sym (append_assoc u s t) ∙ ap (λ l. l ++ t) p.1 ∙ append_assoc p.0 v t ∙ ap (λ l. p.0 ++ l) q.1 ∙ sym (append_assoc p.0 q.0 w),
  Appends-trans a b c p.0 q.0 p.2 q.2,
)
passes_both u v w None None (Some e) s t a b c p q =
    let whole : p.0 ++ (v ++ t) ≡ u ++ (s ++ t) = sym (append_assoc p.0 v t) ∙ ap (λ l. l ++ t) (sym p.1) ∙ append_assoc u s t in
    subst (AppendsFront a c) whole (front_of_second a b c p.0 (v ++ t) p.2 q)
passes_both u v w None (Some d) None s t a b c p q = absurd q
passes_both u v w None (Some d) (Some e) s t a b c p q =
    subst (λ n. AppendsFront a n (u ++ (s ++ t))) (sym q) (subst (AppendsFront a b) (append_assoc u s t) (front_of_first a b (u ++ s) t p))
passes_both u v w (Some d) None h s t a b c p q = absurd p
passes_both u v w (Some d) (Some e) None s t a b c p q = absurd q
passes_both u v w (Some d) (Some e) (Some f) s t a b c p q = q ∙ p

-- All was put from the beginning on, and the last of it was written.
pub passes_whole : (u v : List ℕ) (f g : Option CommandFault) (text : List ℕ) (a b c : Known) → u ≡ [] → f ≡ None → PassesOn u f text a b v g → Ends v g b c → Appends a c text
passes_whole u v (Some e) g text a b c n o p q = cc
passes_whole u v None (Some e) text a b c n o p q = absurd q
passes_whole u v None None text a b c n o p q =
    let whole : p.0 ++ v ≡ text = sym p.1 ∙ ap (λ l. l ++ text) n in
    subst (Appends a c) whole (Appends-trans a b c p.0 v p.2 q)

-- All was put from the beginning on, and there was a fault.
pub passes_front : (u v : List ℕ) (f g : Option CommandFault) (text : List ℕ) (a b c : Known) → u ≡ [] → f ≡ None → PassesOn u f text a b v g → Breaks v g b c → AppendsFront a c text
passes_front u v (Some e) g text a b c n o p q = cc
passes_front u v None (Some e) text a b c n o p q =
    subst (λ k. AppendsFront a k text) (sym q) (subst (AppendsFront a b) (ap (λ l. l ++ text) n) p)
passes_front u v None None text a b c n o p q =
    let whole : p.0 ++ v ≡ text = sym p.1 ∙ ap (λ l. l ++ text) n in
    subst (AppendsFront a c) whole (front_of_second a b c p.0 v p.2 q)

-- ---- strokes

texts_joined : (in_row : Bool) (colors : ColorOutput) (xs ys : List Stroke)
    → text_of (written_of in_row colors (xs ++ ys)) ≡ text_of (written_of in_row colors xs) ++ text_of (written_of in_row colors ys)
texts_joined in_row colors xs ys = ap text_of (flat_map-append (written in_row colors) xs ys) ∙ text_joined (written_of in_row colors xs) (written_of in_row colors ys)

pub puts_none : (a : Known) (p : Pen) → PutsStrokes [] a p a p
puts_none a p = (refl, refl, passes_none p.waiting.bytes p.fault a)

pub puts_both : (xs ys : List Stroke) (a b c : Known) (p q r : Pen) → PutsStrokes xs a p b q → PutsStrokes ys b q c r → PutsStrokes (xs ++ ys) a p c r
puts_both xs ys a b c p q r s t =
    let colors = p.colors in
    let in_row = p.in_row in
    let later : PassesOn q.waiting.bytes q.fault (text_of (written_of in_row colors ys)) b c r.waiting.bytes r.fault =
    subst (λ i. PassesOn q.waiting.bytes q.fault (text_of (written_of i colors ys)) b c r.waiting.bytes r.fault) s.1
    (subst (λ k. PassesOn q.waiting.bytes q.fault (text_of (written_of q.in_row k ys)) b c r.waiting.bytes r.fault) s.0 t.2) in (
      t.0 ∙ s.0,
      t.1 ∙ s.1,
      subst (λ l. PassesOn p.waiting.bytes p.fault l a c r.waiting.bytes r.fault) (sym (texts_joined in_row colors xs ys))
          (passes_both p.waiting.bytes q.waiting.bytes r.waiting.bytes p.fault q.fault r.fault (text_of (written_of in_row colors xs)) (text_of (written_of in_row colors ys)) a b c s.2 later),
    )

-- Strokes that a new pen put, and the last of which were written.
pub puts_whole : (in_row : Bool) (colors : ColorOutput) (strokes : List Stroke) (a b c : Known) (p q : Pen) → p.in_row ≡ in_row → p.colors ≡ colors → p.waiting.bytes ≡ [] → p.fault ≡ None → PutsStrokes strokes a p b q
    → Ends q.waiting.bytes q.fault b c → Appends a c (text_of (written_of in_row colors strokes))
puts_whole in_row colors strokes a b c p q i e n o s t =
    subst (λ j. Appends a c (text_of (written_of j colors strokes))) i
    (subst (λ k. Appends a c (text_of (written_of p.in_row k strokes))) e
    (passes_whole p.waiting.bytes q.waiting.bytes p.fault q.fault (text_of (written_of p.in_row p.colors strokes)) a b c n o s.2 t))

-- Strokes that a new pen put before a fault.
pub puts_front : (in_row : Bool) (colors : ColorOutput) (strokes : List Stroke) (a b c : Known) (p q : Pen) → p.in_row ≡ in_row → p.colors ≡ colors → p.waiting.bytes ≡ [] → p.fault ≡ None → PutsStrokes strokes a p b q
    → Breaks q.waiting.bytes q.fault b c → AppendsFront a c (text_of (written_of in_row colors strokes))
puts_front in_row colors strokes a b c p q i e n o s t =
    subst (λ j. AppendsFront a c (text_of (written_of j colors strokes))) i
    (subst (λ k. AppendsFront a c (text_of (written_of p.in_row k strokes))) e
    (passes_front p.waiting.bytes q.waiting.bytes p.fault q.fault (text_of (written_of p.in_row p.colors strokes)) a b c n o s.2 t))

-- ---- a command

-- A text waits behind the others.
waits_behind : (text u v : List ℕ) (f g : Option CommandFault) (a : Known) → f ≡ None → g ≡ None → v ≡ u ++ text → PassesOn u f text a a v g
waits_behind text u v None None a d h w = ([], sym w, Appends-nil a)
waits_behind text u v None (Some x) a d h w = cc
waits_behind text u v (Some x) g a d h w = cc

pub text_waits : (text : List ℕ) (p q : Pen) (a : Known) → p.fault ≡ None → q.colors ≡ p.colors → q.in_row ≡ p.in_row → q.fault ≡ None → q.waiting.bytes ≡ p.waiting.bytes ++ text → PutsText text a p a q
text_waits text p q a f c i g w = (c, i, waits_behind text p.waiting.bytes q.waiting.bytes p.fault q.fault a f g w)

-- Nothing is put behind a fault.
pub text_lost : (text : List ℕ) (p : Pen) (e : CommandFault) (a : Known) → p.fault ≡ Some e → PutsText text a p a p
text_lost text p e a is = (refl, refl, subst (λ f. PassesOn p.waiting.bytes f text a a p.waiting.bytes f) (sym is) refl)

-- A text has no room.
pub text_refused : (text : List ℕ) (p q : Pen) (e : CommandFault) (a : Known) → p.fault ≡ None → q.colors ≡ p.colors → q.in_row ≡ p.in_row → q.fault ≡ Some e → PutsText text a p a q
text_refused text p q e a is colors in_row fault = (
  colors,
  in_row,
  subst (λ f. PassesOn p.waiting.bytes f text a a q.waiting.bytes q.fault) (sym is)
      (subst (λ f. PassesOn p.waiting.bytes None text a a q.waiting.bytes f) (sym fault) (record { front = []; rest = p.waiting.bytes ++ text; split = refl; grown = Appends-nil a })),
)

-- A stroke's text is the text of its tokens.
pub stroke_text : (s : Stroke) (a b : Known) (p q : Pen) → PutsText (text_of (written p.in_row p.colors s)) a p b q → PutsStrokes (s ∷ []) a p b q
stroke_text s a b p q puts = subst (λ ts. PutsText (text_of ts) a p b q) (sym (append-nil (written p.in_row p.colors s))) puts
