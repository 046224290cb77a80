use Rattle.std.proofs.Common.{drop, sym, ap, ◌∙◌, subst}
use Rattle.host.specs.Meaning.{Meaning}
use Rattle.host.proofs.Checked.{passed, refused}
use Rattle.print_buffer.specs.Buffers.{buffer_bytes}
use Rattle.tracer_host.specs.HostMeaning.{tracer_meaning}
use Rattle.tracer_host.specs.Traces.{radii_of, radius_lines, trace_flaw}
use Rattle.trace_listing.specs.Listings.{AsManyAsFit}
use Rattle.trace_listing.proofs.FitFacts.{as_many}
use Rattle.trace_listing.proofs.listings.list_trace.Goals as goal
use Rattle.trace_listing.proofs.listings.list_trace.Goals.{in-Ok, in-Err-Flawed}

pub returns-clause-fits : goal.returns-clause-fits
returns-clause-fits c =
    let input = c.args.input.now in
    let rs = radii_of (drop 7 input) in
    elim c.match-check.branch [
      | in-Ok w ↦
          let p = passed (λ t. t) input (trace_flaw input) w.in-Ok.trace w.in-Ok.ensures in
          let lines = ap (λ (m : Meaning). m.lines) w.new-in-Ok.ensures ∙ ap (λ bs. radius_lines (drop 7 bs)) p.same in
          λ _. subst (AsManyAsFit rs) (sym (ap buffer_bytes w.out-is ∙ w.list_lines.ensures)) (as_many rs (tracer_meaning w.new-in-Ok.result) lines)
      | in-Err-Flawed w ↦ λ e. let f = refused (λ t. t) input (trace_flaw input) _ w.in-Err-Flawed.flaw (cc) w.in-Err-Flawed.ensures in cc
    ]
