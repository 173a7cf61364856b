use Rattle.std.proofs.Common.{rules, ◌≡◌, List, ℕ, Option, None, subst, sym}
use Rattle.std.specs.Prelude.{OnErr, OnOk}
use Rattle.line_editor.specs.Seeking.{pattern_of}
use Rattle.line_editor.specs.declared.masks.Mask.{Mask}
use Rattle.prompt.specs.Completing.{as_read}
use Rattle.prompt.specs.Frames.{Draws, DrawsFront, area_of}
use Rattle.prompt.specs.Written.{line_shown, look_of, shown_instead}
use Rattle.prompt.proofs.asking.Prompt.show.Goals as goal

pub returns-in-Some-clause-shows : goal.returns-in-Some-clause-shows
returns-in-Some-clause-shows g c =
    let look = look_of as_read (g.H.Helper.hints c.args.self.now.helper.now) (g.H.Helper.candidates c.args.self.now.helper.now) c.args.self.now in
    subst (λ (m : Option Mask). OnOk c.show_masked.result (Draws (shown_instead m (pattern_of c.args.editor.now) look.prompt c.args.editor.now (line_shown look c.args.lists c.args.editor.now)) (area_of c.args.rows.now) (area_of c.show_masked.new.rows) (g.W.Write.contents c.args.out.now) (g.W.Write.contents c.show_masked.new.out)))
    (sym c.in-Some.is) c.show_masked.ensures.shows

pub returns-in-Some-clause-stops : goal.returns-in-Some-clause-stops
returns-in-Some-clause-stops g c =
    let look = look_of as_read (g.H.Helper.hints c.args.self.now.helper.now) (g.H.Helper.candidates c.args.self.now.helper.now) c.args.self.now in
    subst (λ (m : Option Mask). OnErr c.show_masked.result (DrawsFront (shown_instead m (pattern_of c.args.editor.now) look.prompt c.args.editor.now (line_shown look c.args.lists c.args.editor.now)) (area_of c.args.rows.now) (g.W.Write.contents c.args.out.now) (g.W.Write.contents c.show_masked.new.out)))
    (sym c.in-Some.is) c.show_masked.ensures.stops

pub returns-in-None-clause-shows : goal.returns-in-None-clause-shows
returns-in-None-clause-shows g c =
    let look = look_of as_read (g.H.Helper.hints c.args.self.now.helper.now) (g.H.Helper.candidates c.args.self.now.helper.now) c.args.self.now in
    let mask : c.args.self.now.mask ≡ None = search rules in
    subst (λ (m : Option Mask). OnOk c.show_line.result (Draws (shown_instead m (pattern_of c.args.editor.now) look.prompt c.args.editor.now (line_shown look c.args.lists c.args.editor.now)) (area_of c.args.rows.now) (area_of c.show_line.new.rows) (g.W.Write.contents c.args.out.now) (g.W.Write.contents c.show_line.new.out)))
    (sym mask)
    (subst (λ (p : Option (List ℕ)). OnOk c.show_line.result (Draws (shown_instead None p look.prompt c.args.editor.now (line_shown look c.args.lists c.args.editor.now)) (area_of c.args.rows.now) (area_of c.show_line.new.rows) (g.W.Write.contents c.args.out.now) (g.W.Write.contents c.show_line.new.out)))
    c.in-None.ensures.text c.show_line.ensures.shows)

pub returns-in-None-clause-stops : goal.returns-in-None-clause-stops
returns-in-None-clause-stops g c =
    let look = look_of as_read (g.H.Helper.hints c.args.self.now.helper.now) (g.H.Helper.candidates c.args.self.now.helper.now) c.args.self.now in
    let mask : c.args.self.now.mask ≡ None = search rules in
    subst (λ (m : Option Mask). OnErr c.show_line.result (DrawsFront (shown_instead m (pattern_of c.args.editor.now) look.prompt c.args.editor.now (line_shown look c.args.lists c.args.editor.now)) (area_of c.args.rows.now) (g.W.Write.contents c.args.out.now) (g.W.Write.contents c.show_line.new.out)))
    (sym mask)
    (subst (λ (p : Option (List ℕ)). OnErr c.show_line.result (DrawsFront (shown_instead None p look.prompt c.args.editor.now (line_shown look c.args.lists c.args.editor.now)) (area_of c.args.rows.now) (g.W.Write.contents c.args.out.now) (g.W.Write.contents c.show_line.new.out)))
    c.in-None.ensures.text c.show_line.ensures.stops)

pub returns-in-Some-pattern-clause-shows : goal.returns-in-Some-pattern-clause-shows
returns-in-Some-pattern-clause-shows g c =
    let look = look_of as_read (g.H.Helper.hints c.args.self.now.helper.now) (g.H.Helper.candidates c.args.self.now.helper.now) c.args.self.now in
    let mask : c.args.self.now.mask ≡ None = search rules in
    subst (λ (m : Option Mask). OnOk c.show_search.result (Draws (shown_instead m (pattern_of c.args.editor.now) look.prompt c.args.editor.now (line_shown look c.args.lists c.args.editor.now)) (area_of c.args.rows.now) (area_of c.show_search.new.rows) (g.W.Write.contents c.args.out.now) (g.W.Write.contents c.show_search.new.out)))
    (sym mask)
    (subst (λ (p : Option (List ℕ)). OnOk c.show_search.result (Draws (shown_instead None p look.prompt c.args.editor.now (line_shown look c.args.lists c.args.editor.now)) (area_of c.args.rows.now) (area_of c.show_search.new.rows) (g.W.Write.contents c.args.out.now) (g.W.Write.contents c.show_search.new.out)))
    c.in-Some-pattern.ensures.text c.show_search.ensures.shows)

pub returns-in-Some-pattern-clause-stops : goal.returns-in-Some-pattern-clause-stops
returns-in-Some-pattern-clause-stops g c =
    let look = look_of as_read (g.H.Helper.hints c.args.self.now.helper.now) (g.H.Helper.candidates c.args.self.now.helper.now) c.args.self.now in
    let mask : c.args.self.now.mask ≡ None = search rules in
    subst (λ (m : Option Mask). OnErr c.show_search.result (DrawsFront (shown_instead m (pattern_of c.args.editor.now) look.prompt c.args.editor.now (line_shown look c.args.lists c.args.editor.now)) (area_of c.args.rows.now) (g.W.Write.contents c.args.out.now) (g.W.Write.contents c.show_search.new.out)))
    (sym mask)
    (subst (λ (p : Option (List ℕ)). OnErr c.show_search.result (DrawsFront (shown_instead None p look.prompt c.args.editor.now (line_shown look c.args.lists c.args.editor.now)) (area_of c.args.rows.now) (g.W.Write.contents c.args.out.now) (g.W.Write.contents c.show_search.new.out)))
    c.in-Some-pattern.ensures.text c.show_search.ensures.stops)
