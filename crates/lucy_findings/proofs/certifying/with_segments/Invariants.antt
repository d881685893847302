use Rattle.std.proofs.Common.{◌≡◌, ◌++◌, max, true, drop}
use Rattle.std.specs.List.{list_all}
use Rattle.lucy_cert.specs.Writable.{cert_part_fits}
use Rattle.lucy_findings.specs.Certifying.{closure_parts, most_of}
use Rattle.lucy_findings.proofs.certifying.with_segments.Given as goal

abbrev pub invariant-loop-segment : goal.invariant-loop-segment
invariant-loop-segment l = record {
  items : l.parts.items ++ closure_parts l.plan l.segment (drop l.segment l.findings) ≡ closure_parts l.plan 0 l.findings;
  most : max l.parts.most (most_of (closure_parts l.plan l.segment (drop l.segment l.findings))) ≡ most_of (closure_parts l.plan 0 l.findings);
  fits : list_all (cert_part_fits true) l.parts.items ≡ true;
}
