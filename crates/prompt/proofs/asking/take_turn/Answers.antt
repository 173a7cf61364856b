use Rattle.std.proofs.Common.{inr, refl, sym, ◌∙◌, ◌++◌, [], ◌∷◌, false}
use Rattle.std.specs.IoError.{error_kind}
use Rattle.crossterm_types.specs.Seen.{seen_event}
use Rattle.crossterm_read.specs.PassViews.{knows}
use Rattle.line_editor.specs.Turns as turns
use Rattle.prompt.specs.Asking.{answer_seen, broke, stopped}
use Rattle.prompt.specs.Completing.{given_by}
use Rattle.prompt.proofs.Turning.{goes_further, goes_on_asked, refuses}
use Rattle.crossterm_command.proofs.Taking.{at_ok}
use Rattle.prompt.specs.Frames.{area_of, leaving_area}
use Rattle.prompt.specs.Lines.{going_on_events}
use Rattle.prompt.specs.Written.{Shows, look_of}
use Rattle.prompt.proofs.Sending.{at_err}
use Rattle.prompt.proofs.Showing.{all_of, either_way, ends_shown, ends_so, goes_shown, lets_clear, lists_so, misses, moved, overruns, refused_shown, rings, rings_front, stops_shown, takes, went_on}
use Rattle.prompt.proofs.asking.take_turn.Goals as goal

pub returns-in-Err-clause-leads : goal.returns-in-Err-clause-leads
returns-in-Err-clause-leads g c v w goes = broke (knows c.args.tty.now.pass) goes c.in-Err.ensures.call

pub returns-in-Ok-show_after-clause-leads : goal.returns-in-Ok-show_after-clause-leads
returns-in-Ok-show_after-clause-leads g c v w goes =
    let given = given_by (g.H.Helper.completes c.args.prompt.now.helper.now) in
    goes_on_asked g.S.EventSource.drawn g.S.EventSource.asked given v w (knows c.read.new.self.pass) (knows c.show_after.new.tty.pass) c.take.new.editor
    (goes_further g.S.EventSource.drawn g.S.EventSource.asked given v w (knows c.args.tty.now.pass) (knows c.read.new.self.pass) c.args.editor.now c.take.new.editor (seen_event c.in-Ok.event)
    goes c.in-Ok.ensures.call turns.Going tt c.in-Going.ensures.0) c.show_after.ensures.asked

pub returns-in-Going-clause-leads : goal.returns-in-Going-clause-leads
returns-in-Going-clause-leads g c v w goes =
    let given = given_by (g.H.Helper.completes c.args.prompt.now.helper.now) in
    stopped (goes_on_asked g.S.EventSource.drawn g.S.EventSource.asked given v w (knows c.read.new.self.pass) (knows c.show_after.new.tty.pass) c.take.new.editor
    (goes_further g.S.EventSource.drawn g.S.EventSource.asked given v w (knows c.args.tty.now.pass) (knows c.read.new.self.pass) c.args.editor.now c.take.new.editor (seen_event c.in-Ok.event)
    goes c.in-Ok.ensures.call turns.Going tt c.in-Going.ensures.0) c.show_after.ensures.asked)

pub returns-in-Ok-ring-clause-leads : goal.returns-in-Ok-ring-clause-leads
returns-in-Ok-ring-clause-leads g c v w goes =
    let given = given_by (g.H.Helper.completes c.args.prompt.now.helper.now) in
    goes_further g.S.EventSource.drawn g.S.EventSource.asked given v w (knows c.args.tty.now.pass) (knows c.read.new.self.pass) c.args.editor.now c.take.new.editor (seen_event c.in-Ok.event)
    goes c.in-Ok.ensures.call turns.Going tt c.in-TooLong.ensures.0

pub returns-in-TooLong-clause-leads : goal.returns-in-TooLong-clause-leads
returns-in-TooLong-clause-leads g c v w goes =
    let given = given_by (g.H.Helper.completes c.args.prompt.now.helper.now) in
    stopped (goes_further g.S.EventSource.drawn g.S.EventSource.asked given v w (knows c.args.tty.now.pass) (knows c.read.new.self.pass) c.args.editor.now c.take.new.editor (seen_event c.in-Ok.event)
    goes c.in-Ok.ensures.call turns.Going tt c.in-TooLong.ensures.0)

pub returns-in-Ok-show_at_top-clause-leads : goal.returns-in-Ok-show_at_top-clause-leads
returns-in-Ok-show_at_top-clause-leads g c v w goes =
    let given = given_by (g.H.Helper.completes c.args.prompt.now.helper.now) in
    goes_further g.S.EventSource.drawn g.S.EventSource.asked given v w (knows c.args.tty.now.pass) (knows c.read.new.self.pass) c.args.editor.now c.take.new.editor (seen_event c.in-Ok.event)
    goes c.in-Ok.ensures.call turns.Clear tt c.in-Clear.ensures

pub returns-in-Clear-clause-leads : goal.returns-in-Clear-clause-leads
returns-in-Clear-clause-leads g c v w goes =
    let given = given_by (g.H.Helper.completes c.args.prompt.now.helper.now) in
    stopped (goes_further g.S.EventSource.drawn g.S.EventSource.asked given v w (knows c.args.tty.now.pass) (knows c.read.new.self.pass) c.args.editor.now c.take.new.editor (seen_event c.in-Ok.event)
    goes c.in-Ok.ensures.call turns.Clear tt c.in-Clear.ensures)

pub returns-in-Ok-show_and_ring-clause-leads : goal.returns-in-Ok-show_and_ring-clause-leads
returns-in-Ok-show_and_ring-clause-leads g c v w goes =
    let given = given_by (g.H.Helper.completes c.args.prompt.now.helper.now) in
    goes_further g.S.EventSource.drawn g.S.EventSource.asked given v w (knows c.args.tty.now.pass) (knows c.read.new.self.pass) c.args.editor.now c.take.new.editor (seen_event c.in-Ok.event)
    goes c.in-Ok.ensures.call turns.Ring tt c.in-Ring.ensures

pub returns-in-Ring-clause-leads : goal.returns-in-Ring-clause-leads
returns-in-Ring-clause-leads g c v w goes =
    let given = given_by (g.H.Helper.completes c.args.prompt.now.helper.now) in
    stopped (goes_further g.S.EventSource.drawn g.S.EventSource.asked given v w (knows c.args.tty.now.pass) (knows c.read.new.self.pass) c.args.editor.now c.take.new.editor (seen_event c.in-Ok.event)
    goes c.in-Ok.ensures.call turns.Ring tt c.in-Ring.ensures)

pub returns-clause-leads : goal.returns-clause-leads
returns-clause-leads g c v w goes =
    let given = given_by (g.H.Helper.completes c.args.prompt.now.helper.now) in
    refuses g.S.EventSource.drawn g.S.EventSource.asked given v w (knows c.args.tty.now.pass) (knows c.read.new.self.pass) c.args.editor.now c.take.new.editor (seen_event c.in-Ok.event) (error_kind c.from.result)
    goes c.in-Ok.ensures.call c.in-Refused.ensures.0 c.in-Refused.ensures.1 c.from.ensures

pub returns-in-Err-clause-written : goal.returns-in-Err-clause-written
returns-in-Err-clause-written g c v w was out may s =
    let given = given_by (g.H.Helper.completes c.args.prompt.now.helper.now) in
    let look = look_of given (g.H.Helper.hints c.args.prompt.now.helper.now) (g.H.Helper.candidates c.args.prompt.now.helper.now) c.args.prompt.now in
    let a = area_of c.args.rows.now in
    record {
      stops = broke (knows c.args.tty.now.pass) s.goes c.in-Err.ensures.call;
      written = all_of look w (going_on_events s.goes) c.args.editor.now (Shows a false) out (g.W.Write.contents c.read.new.self.out)
          (moved look w g.W.Write.contents (going_on_events s.goes) c.args.editor.now (Shows a false) out c.args.tty.now.out c.read.new.self.out c.in-Err.ensures.others.0 s.written);
    }

pub returns-in-Ok-show_after-clause-written : goal.returns-in-Ok-show_after-clause-written
returns-in-Ok-show_after-clause-written g c v w was out may s =
    let given = given_by (g.H.Helper.completes c.args.prompt.now.helper.now) in
    let look = look_of given (g.H.Helper.hints c.args.prompt.now.helper.now) (g.H.Helper.candidates c.args.prompt.now.helper.now) c.args.prompt.now in
    let a = area_of c.args.rows.now in
    let e = seen_event c.in-Ok.event in
    let es = going_on_events s.goes ++ e ∷ [] in
    let both = lists_so (going_on_events s.goes) e c.is_tab-tab.result c.args.tabbed c.is_second-lists.result c.is_tab-tab.ensures s.tabs c.is_second-lists.ensures in
    let written = moved look w g.W.Write.contents (going_on_events s.goes) c.args.editor.now (Shows a false) out c.args.tty.now.out c.read.new.self.out c.in-Ok.ensures.others.0 s.written in
    let on = went_on g.S.EventSource.drawn g.S.EventSource.asked look v w (knows c.args.tty.now.pass) (knows c.read.new.self.pass) (knows c.show_after.new.tty.pass) c.args.editor.now c.take.new.editor e s.goes c.in-Ok.ensures.call turns.Going tt c.in-Going.ensures.0 c.show_after.ensures.asked in
    let due = takes look w (going_on_events s.goes) c.args.editor.now c.take.new.editor a e out (g.W.Write.contents c.read.new.self.out) written c.in-Going.ensures.1 c.in-Going.ensures.0 in
    goes_shown g.S.EventSource.drawn g.S.EventSource.asked look v w (knows c.show_after.new.tty.pass) c.take.new.editor es (area_of c.show_after.new.rows) c.is_tab-tab.result c.is_second-lists.result out
    (g.W.Write.contents c.show_after.new.tty.out) on (ends_so (going_on_events s.goes) e ∙ sym c.is_tab-tab.ensures) both (at_ok c.in-Ok-show_after.is (c.show_after.ensures.shows given w es out may both due))

pub returns-in-Going-clause-written : goal.returns-in-Going-clause-written
returns-in-Going-clause-written g c v w was out may s =
    let given = given_by (g.H.Helper.completes c.args.prompt.now.helper.now) in
    let look = look_of given (g.H.Helper.hints c.args.prompt.now.helper.now) (g.H.Helper.candidates c.args.prompt.now.helper.now) c.args.prompt.now in
    let a = area_of c.args.rows.now in
    let e = seen_event c.in-Ok.event in
    let es = going_on_events s.goes ++ e ∷ [] in
    let both = lists_so (going_on_events s.goes) e c.is_tab-tab.result c.args.tabbed c.is_second-lists.result c.is_tab-tab.ensures s.tabs c.is_second-lists.ensures in
    let written = moved look w g.W.Write.contents (going_on_events s.goes) c.args.editor.now (Shows a false) out c.args.tty.now.out c.read.new.self.out c.in-Ok.ensures.others.0 s.written in
    let on = went_on g.S.EventSource.drawn g.S.EventSource.asked look v w (knows c.args.tty.now.pass) (knows c.read.new.self.pass) (knows c.show_after.new.tty.pass) c.args.editor.now c.take.new.editor e s.goes c.in-Ok.ensures.call turns.Going tt c.in-Going.ensures.0 c.show_after.ensures.asked in
    let due = takes look w (going_on_events s.goes) c.args.editor.now c.take.new.editor a e out (g.W.Write.contents c.read.new.self.out) written c.in-Going.ensures.1 c.in-Going.ensures.0 in
    stops_shown g.S.EventSource.drawn g.S.EventSource.asked look v w (error_kind c.in-Err-show_after.error) (knows c.show_after.new.tty.pass) c.take.new.editor es out
    (g.W.Write.contents c.show_after.new.tty.out) on (at_err c.in-Err-show_after.is (c.show_after.ensures.stops given w es out may both due))

pub returns-in-Ok-ring-clause-written : goal.returns-in-Ok-ring-clause-written
returns-in-Ok-ring-clause-written g c v w was out may s =
    let given = given_by (g.H.Helper.completes c.args.prompt.now.helper.now) in
    let look = look_of given (g.H.Helper.hints c.args.prompt.now.helper.now) (g.H.Helper.candidates c.args.prompt.now.helper.now) c.args.prompt.now in
    let a = area_of c.args.rows.now in
    let e = seen_event c.in-Ok.event in
    let es = going_on_events s.goes ++ e ∷ [] in
    let both = lists_so (going_on_events s.goes) e c.is_tab-tab.result c.args.tabbed c.is_second-lists.result c.is_tab-tab.ensures s.tabs c.is_second-lists.ensures in
    let written = moved look w g.W.Write.contents (going_on_events s.goes) c.args.editor.now (Shows a false) out c.args.tty.now.out c.read.new.self.out c.in-Ok.ensures.others.0 s.written in
    let on = went_on g.S.EventSource.drawn g.S.EventSource.asked look v w (knows c.args.tty.now.pass) (knows c.read.new.self.pass) (knows c.read.new.self.pass) c.args.editor.now c.take.new.editor e s.goes c.in-Ok.ensures.call turns.Going tt c.in-TooLong.ensures.0 (inr refl) in
    goes_shown g.S.EventSource.drawn g.S.EventSource.asked look v w (knows c.read.new.self.pass) c.take.new.editor es a c.is_tab-tab.result c.is_second-lists.result out (g.W.Write.contents c.ring.new.out) on (ends_so (going_on_events s.goes) e ∙ sym c.is_tab-tab.ensures) both
    (rings look w es c.take.new.editor a out (g.W.Write.contents c.read.new.self.out) (g.W.Write.contents c.ring.new.out)
    (overruns look w (going_on_events s.goes) c.args.editor.now c.take.new.editor a e out (g.W.Write.contents c.read.new.self.out) written c.in-TooLong.ensures.1 c.in-TooLong.ensures.0)
    (at_ok c.in-Ok-ring.is c.ring.ensures.ok))

pub returns-in-TooLong-clause-written : goal.returns-in-TooLong-clause-written
returns-in-TooLong-clause-written g c v w was out may s =
    let given = given_by (g.H.Helper.completes c.args.prompt.now.helper.now) in
    let look = look_of given (g.H.Helper.hints c.args.prompt.now.helper.now) (g.H.Helper.candidates c.args.prompt.now.helper.now) c.args.prompt.now in
    let a = area_of c.args.rows.now in
    let e = seen_event c.in-Ok.event in
    let es = going_on_events s.goes ++ e ∷ [] in
    let written = moved look w g.W.Write.contents (going_on_events s.goes) c.args.editor.now (Shows a false) out c.args.tty.now.out c.read.new.self.out c.in-Ok.ensures.others.0 s.written in
    let on = went_on g.S.EventSource.drawn g.S.EventSource.asked look v w (knows c.args.tty.now.pass) (knows c.read.new.self.pass) (knows c.read.new.self.pass) c.args.editor.now c.take.new.editor e s.goes c.in-Ok.ensures.call turns.Going tt c.in-TooLong.ensures.0 (inr refl) in
    stops_shown g.S.EventSource.drawn g.S.EventSource.asked look v w (error_kind c.in-Err-ring.error) (knows c.read.new.self.pass) c.take.new.editor es out (g.W.Write.contents c.ring.new.out) on
    (rings_front look w es c.take.new.editor a out (g.W.Write.contents c.read.new.self.out) (g.W.Write.contents c.ring.new.out)
    (overruns look w (going_on_events s.goes) c.args.editor.now c.take.new.editor a e out (g.W.Write.contents c.read.new.self.out) written c.in-TooLong.ensures.1 c.in-TooLong.ensures.0)
    (at_err c.in-Err-ring.is c.ring.ensures.err))

pub returns-in-Ended-clause-written : goal.returns-in-Ended-clause-written
returns-in-Ended-clause-written g c v w was out may s =
    let given = given_by (g.H.Helper.completes c.args.prompt.now.helper.now) in
    let look = look_of given (g.H.Helper.hints c.args.prompt.now.helper.now) (g.H.Helper.candidates c.args.prompt.now.helper.now) c.args.prompt.now in
    let a = area_of c.args.rows.now in
    let e = seen_event c.in-Ok.event in
    let written = moved look w g.W.Write.contents (going_on_events s.goes) c.args.editor.now (Shows a false) out c.args.tty.now.out c.read.new.self.out c.in-Ok.ensures.others.0 s.written in
    let old = g.W.Write.contents c.read.new.self.out in
    let new = g.W.Write.contents c.leave.new.out in
    ends_shown g.S.EventSource.drawn g.S.EventSource.asked look v w (knows c.args.tty.now.pass) (knows c.read.new.self.pass) c.args.editor.now c.take.new.editor e (answer_seen c.in-Ended.read) a c.args.tabbed was out old new
    (record { goes = s.goes; tabs = s.tabs; listed = s.listed; written = written }) c.in-Ok.ensures.call c.in-Ended.ensures (either_way c.leave.result old new (leaving_area a) c.leave.ensures.ok c.leave.ensures.err)

pub returns-clause-written : goal.returns-clause-written
returns-clause-written g c v w was out may s =
    let given = given_by (g.H.Helper.completes c.args.prompt.now.helper.now) in
    let look = look_of given (g.H.Helper.hints c.args.prompt.now.helper.now) (g.H.Helper.candidates c.args.prompt.now.helper.now) c.args.prompt.now in
    let a = area_of c.args.rows.now in
    let e = seen_event c.in-Ok.event in
    let written = moved look w g.W.Write.contents (going_on_events s.goes) c.args.editor.now (Shows a false) out c.args.tty.now.out c.read.new.self.out c.in-Ok.ensures.others.0 s.written in
    refused_shown g.S.EventSource.drawn g.S.EventSource.asked look v w (knows c.args.tty.now.pass) (knows c.read.new.self.pass) c.args.editor.now c.take.new.editor e a c.args.tabbed was (error_kind c.from.result) out
    (g.W.Write.contents c.read.new.self.out) (record { goes = s.goes; tabs = s.tabs; listed = s.listed; written = written }) c.in-Ok.ensures.call c.in-Refused.ensures.0 c.in-Refused.ensures.1 c.from.ensures

pub returns-in-Ok-show_at_top-clause-written : goal.returns-in-Ok-show_at_top-clause-written
returns-in-Ok-show_at_top-clause-written g c v w was out may s =
    let given = given_by (g.H.Helper.completes c.args.prompt.now.helper.now) in
    let look = look_of given (g.H.Helper.hints c.args.prompt.now.helper.now) (g.H.Helper.candidates c.args.prompt.now.helper.now) c.args.prompt.now in
    let a = area_of c.args.rows.now in
    let e = seen_event c.in-Ok.event in
    let es = going_on_events s.goes ++ e ∷ [] in
    let both = lists_so (going_on_events s.goes) e c.is_tab-tab.result c.args.tabbed c.is_second-lists.result c.is_tab-tab.ensures s.tabs c.is_second-lists.ensures in
    let written = moved look w g.W.Write.contents (going_on_events s.goes) c.args.editor.now (Shows a false) out c.args.tty.now.out c.read.new.self.out c.in-Ok.ensures.others.0 s.written in
    let on = went_on g.S.EventSource.drawn g.S.EventSource.asked look v w (knows c.args.tty.now.pass) (knows c.read.new.self.pass) (knows c.read.new.self.pass) c.args.editor.now c.take.new.editor e s.goes c.in-Ok.ensures.call turns.Clear tt c.in-Clear.ensures (inr refl) in
    let due = lets_clear look w (going_on_events s.goes) c.args.editor.now c.take.new.editor a e out (g.W.Write.contents c.read.new.self.out) written c.in-Clear.ensures in
    goes_shown g.S.EventSource.drawn g.S.EventSource.asked look v w (knows c.read.new.self.pass) c.take.new.editor es (area_of c.show_at_top.new.rows) c.is_tab-tab.result c.is_second-lists.result out
    (g.W.Write.contents c.show_at_top.new.out) on (ends_so (going_on_events s.goes) e ∙ sym c.is_tab-tab.ensures) both (at_ok c.in-Ok-show_at_top.is (c.show_at_top.ensures.shows given w es out both due))

pub returns-in-Clear-clause-written : goal.returns-in-Clear-clause-written
returns-in-Clear-clause-written g c v w was out may s =
    let given = given_by (g.H.Helper.completes c.args.prompt.now.helper.now) in
    let look = look_of given (g.H.Helper.hints c.args.prompt.now.helper.now) (g.H.Helper.candidates c.args.prompt.now.helper.now) c.args.prompt.now in
    let a = area_of c.args.rows.now in
    let e = seen_event c.in-Ok.event in
    let es = going_on_events s.goes ++ e ∷ [] in
    let both = lists_so (going_on_events s.goes) e c.is_tab-tab.result c.args.tabbed c.is_second-lists.result c.is_tab-tab.ensures s.tabs c.is_second-lists.ensures in
    let written = moved look w g.W.Write.contents (going_on_events s.goes) c.args.editor.now (Shows a false) out c.args.tty.now.out c.read.new.self.out c.in-Ok.ensures.others.0 s.written in
    let on = went_on g.S.EventSource.drawn g.S.EventSource.asked look v w (knows c.args.tty.now.pass) (knows c.read.new.self.pass) (knows c.read.new.self.pass) c.args.editor.now c.take.new.editor e s.goes c.in-Ok.ensures.call turns.Clear tt c.in-Clear.ensures (inr refl) in
    let due = lets_clear look w (going_on_events s.goes) c.args.editor.now c.take.new.editor a e out (g.W.Write.contents c.read.new.self.out) written c.in-Clear.ensures in
    stops_shown g.S.EventSource.drawn g.S.EventSource.asked look v w (error_kind c.in-Err-show_at_top.error) (knows c.read.new.self.pass) c.take.new.editor es out
    (g.W.Write.contents c.show_at_top.new.out) on (at_err c.in-Err-show_at_top.is (c.show_at_top.ensures.stops given w es out both due))

pub returns-in-Ok-show_and_ring-clause-written : goal.returns-in-Ok-show_and_ring-clause-written
returns-in-Ok-show_and_ring-clause-written g c v w was out may s =
    let given = given_by (g.H.Helper.completes c.args.prompt.now.helper.now) in
    let look = look_of given (g.H.Helper.hints c.args.prompt.now.helper.now) (g.H.Helper.candidates c.args.prompt.now.helper.now) c.args.prompt.now in
    let a = area_of c.args.rows.now in
    let e = seen_event c.in-Ok.event in
    let es = going_on_events s.goes ++ e ∷ [] in
    let both = lists_so (going_on_events s.goes) e c.is_tab-tab.result c.args.tabbed c.is_second-lists.result c.is_tab-tab.ensures s.tabs c.is_second-lists.ensures in
    let written = moved look w g.W.Write.contents (going_on_events s.goes) c.args.editor.now (Shows a false) out c.args.tty.now.out c.read.new.self.out c.in-Ok.ensures.others.0 s.written in
    let on = went_on g.S.EventSource.drawn g.S.EventSource.asked look v w (knows c.args.tty.now.pass) (knows c.read.new.self.pass) (knows c.read.new.self.pass) c.args.editor.now c.take.new.editor e s.goes c.in-Ok.ensures.call turns.Ring tt c.in-Ring.ensures (inr refl) in
    let due = misses look w (going_on_events s.goes) c.args.editor.now c.take.new.editor a e out (g.W.Write.contents c.read.new.self.out) written c.in-Ring.ensures in
    goes_shown g.S.EventSource.drawn g.S.EventSource.asked look v w (knows c.read.new.self.pass) c.take.new.editor es (area_of c.show_and_ring.new.rows) c.is_tab-tab.result c.is_second-lists.result out
    (g.W.Write.contents c.show_and_ring.new.out) on (ends_so (going_on_events s.goes) e ∙ sym c.is_tab-tab.ensures) both (at_ok c.in-Ok-show_and_ring.is (c.show_and_ring.ensures.shows given w es out both due))

pub returns-in-Ring-clause-written : goal.returns-in-Ring-clause-written
returns-in-Ring-clause-written g c v w was out may s =
    let given = given_by (g.H.Helper.completes c.args.prompt.now.helper.now) in
    let look = look_of given (g.H.Helper.hints c.args.prompt.now.helper.now) (g.H.Helper.candidates c.args.prompt.now.helper.now) c.args.prompt.now in
    let a = area_of c.args.rows.now in
    let e = seen_event c.in-Ok.event in
    let es = going_on_events s.goes ++ e ∷ [] in
    let both = lists_so (going_on_events s.goes) e c.is_tab-tab.result c.args.tabbed c.is_second-lists.result c.is_tab-tab.ensures s.tabs c.is_second-lists.ensures in
    let written = moved look w g.W.Write.contents (going_on_events s.goes) c.args.editor.now (Shows a false) out c.args.tty.now.out c.read.new.self.out c.in-Ok.ensures.others.0 s.written in
    let on = went_on g.S.EventSource.drawn g.S.EventSource.asked look v w (knows c.args.tty.now.pass) (knows c.read.new.self.pass) (knows c.read.new.self.pass) c.args.editor.now c.take.new.editor e s.goes c.in-Ok.ensures.call turns.Ring tt c.in-Ring.ensures (inr refl) in
    let due = misses look w (going_on_events s.goes) c.args.editor.now c.take.new.editor a e out (g.W.Write.contents c.read.new.self.out) written c.in-Ring.ensures in
    stops_shown g.S.EventSource.drawn g.S.EventSource.asked look v w (error_kind c.in-Err-show_and_ring.error) (knows c.read.new.self.pass) c.take.new.editor es out
    (g.W.Write.contents c.show_and_ring.new.out) on (at_err c.in-Err-show_and_ring.is (c.show_and_ring.ensures.stops given w es out both due))
