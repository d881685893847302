use Rattle.std.proofs.Common.{◌^◌, refl}
use Rattle.lucy_reading.specs.Faults.{too_long}
use Rattle.lucy_report.specs.FaultLines.{bad_certificate}
use Rattle.lucy_stream.specs.declared.error.StreamError.TheVariants as cause
use Rattle.lucy_top.specs.Judging.{refusal_in}
use Rattle.lucy_top.proofs.JudgingLemmas.{line_reads}
use Rattle.lucy_top.proofs.judging.tell_error.Goals as goal

pub returns-in-TooLong-clause-read : goal.returns-in-TooLong-clause-read
returns-in-TooLong-clause-read c =
    line_reads refusal_in c.args.name.now c.args.error cause.TooLong (too_long c.args.name.now (2 ^ 26)) c.too_long.result c.in-TooLong.is refl c.too_long.ensures

pub returns-in-BadLine-clause-read : goal.returns-in-BadLine-clause-read
returns-in-BadLine-clause-read c =
    line_reads refusal_in c.args.name.now c.args.error (cause.BadLine c.in-BadLine.line) (bad_certificate c.args.name.now c.in-BadLine.line) c.refuse_line.result c.in-BadLine.is refl c.refuse_line.ensures
