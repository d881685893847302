use Rattle.std.proofs.Common.{ap, arith, sym, ◌≡◌, ◌+◌, ◌-◌, length, take, drop, ◌∙◌, List, ℕ, length-take}
use Rattle.lucy_io.specs.SourceInMemory.{SourceInMemory}
use Rattle.lucy_io.proofs.Pieces.{read_front, read_end}
use Rattle.lucy_io.proofs.memory_source.MemorySourceSource.take.Goals as goal

pub returns-clause-bytes : goal.returns-clause-bytes
returns-clause-bytes c =
    let s = c.self.inside in
    let n = c.min-count.result in
    let before = ap (λ (v : SourceInMemory). v.left) (sym c.self.view_is) in
    let e = c.copy_from_slice.ensures.after ∙ ap (λ (b : List ℕ). take ((s.at + n) - s.at) (drop s.at b)) c.deref-2.ensures.value in
    let size = ap length c.deref-2.ensures.value in
    let len : length c.copy_from_slice.new.self ≡ n = omega (arith, c.copy_from_slice.ensures.len, length-take n c.args.buffer.now, c.min-count.ensures) in (
      before ∙ read_front s.at n s.bytes.items c.copy_from_slice.new.self _ e (omega (arith, size, c.deref-2.ensures.len)),
      λ none more. read_end s.at n s.most s.bytes.items c.copy_from_slice.new.self c.args.buffer.now c.self.invariant.1 (omega (arith, size, c.deref-2.ensures.len)) none len more,
    )
