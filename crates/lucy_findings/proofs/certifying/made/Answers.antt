use Rattle.std.proofs.Common.{Some, ap, ◌∙◌}
use Rattle.lucy_cert.specs.Names.{ascend}
use Rattle.lucy_cert.specs.Certificates.{part_names, contents}
use Rattle.lucy_findings.specs.Certifying.{parts_of}
use Rattle.lucy_findings.proofs.Making.{parts_ascend, parts_made, most_made}
use Rattle.lucy_findings.proofs.certifying.made.Goals as goal

pub of_parts-requires : goal.of_parts-requires
of_parts-requires c =
    let items = parts_made c.args.plan.now c.args.findings.now c.as_slice.result.now c.in_ok-closures.closures.items c.in_ok-parts.parts.items c.as_slice.ensures c.in_ok-closures.ensures.items c.in_ok-parts.ensures.items in
    record { ascend = ap (λ ps. ascend (part_names ps)) items ∙ parts_ascend c.args.plan.now c.args.findings.now }

pub returns-clause-value : goal.returns-clause-value
returns-clause-value c =
    let items = parts_made c.args.plan.now c.args.findings.now c.as_slice.result.now c.in_ok-closures.closures.items c.in_ok-parts.parts.items c.as_slice.ensures c.in_ok-closures.ensures.items c.in_ok-parts.ensures.items in
    let most = most_made c.args.plan.now c.args.findings.now c.as_slice.result.now c.in_ok-closures.closures.most c.in_ok-parts.parts.most c.as_slice.ensures c.in_ok-closures.ensures.most c.in_ok-parts.ensures.most in
    c.of_parts.ensures.value ∙ ap (λ ps. contents ps (Some c.in_ok-parts.parts.most)) items ∙ ap (λ n. contents (parts_of c.args.plan.now c.args.findings.now) (Some n)) most

pub returns-clause-writable : goal.returns-clause-writable
returns-clause-writable c = c.of_parts.ensures.writable (c.in_ok-parts.ensures.fits c.in_ok-closures.ensures.fits)
