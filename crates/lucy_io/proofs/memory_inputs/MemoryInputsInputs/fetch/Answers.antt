use Rattle.std.proofs.Common.{◌≡◌, ℕ, ◌+◌, List, map, Option, take, IsSomeAnd, ap, subst, sym, ◌∙◌}
use Rattle.lucy_io.specs.Faults.{next_count}
use Rattle.lucy_io.specs.InputsInMemory.{InputsInMemory, pair_of, input_of, fails_at}
use Rattle.lucy_io.proofs.memory_inputs.MemoryInputsInputs.fetch.Goals as goal

pub returns-then-contains-clause-answers : goal.returns-then-contains-clause-answers
returns-then-contains-clause-answers c =
    let fails : c.contains.result ≡ fails_at c.args.self.now.failing c.args.self.now.calls =
    c.contains.ensures.value ∙ ap (λ ns. fails_at ns c.self.inside.calls) c.deref.ensures.value ∙ ap (λ (v : InputsInMemory). fails_at v.failing v.calls) c.self.view_is in
    (sym fails ∙ c.if-contains.true, c.saturating_add-self-inside.ensures ∙ ap (λ (v : InputsInMemory). next_count v.calls) c.self.view_is)

pub returns-in_ok-note-in-Some-clause-bytes : goal.returns-in_ok-note-in-Some-clause-bytes
returns-in_ok-note-in-Some-clause-bytes c =
    let input = c.in-Some.ensures ∙ ap (λ ps. input_of (map pair_of ps) c.args.name.now) c.deref-2.ensures.value ∙ ap (λ (v : InputsInMemory). input_of v.pairs c.args.name.now) c.self.view_is in
    let given : Option (List ℕ) → Type 0 = λ o. IsSomeAnd o (λ all. c.in_ok-bytes-in-Some.bytes.items ≡ take (c.args.most + 1) all) in
    subst given input (c.in_ok-bytes-in-Some.ensures.items ∙ c.front.ensures.front)

pub returns-in_ok-note-in-Some-clause-answers : goal.returns-in_ok-note-in-Some-clause-answers
returns-in_ok-note-in-Some-clause-answers c =
    let fails : c.contains.result ≡ fails_at c.args.self.now.failing c.args.self.now.calls =
    c.contains.ensures.value ∙ ap (λ ns. fails_at ns c.self.inside.calls) c.deref.ensures.value ∙ ap (λ (v : InputsInMemory). fails_at v.failing v.calls) c.self.view_is in
    (sym fails ∙ c.if-contains.false, c.saturating_add-self-inside-in-Some.ensures ∙ ap (λ (v : InputsInMemory). next_count v.calls) c.self.view_is)

pub returns-in_ok-note-in-None-clause-bytes : goal.returns-in_ok-note-in-None-clause-bytes
returns-in_ok-note-in-None-clause-bytes c =
    sym (c.in-None.ensures ∙ ap (λ ps. input_of (map pair_of ps) c.args.name.now) c.deref-2.ensures.value ∙ ap (λ (v : InputsInMemory). input_of v.pairs c.args.name.now) c.self.view_is)

pub returns-in_ok-note-in-None-clause-answers : goal.returns-in_ok-note-in-None-clause-answers
returns-in_ok-note-in-None-clause-answers c =
    let fails : c.contains.result ≡ fails_at c.args.self.now.failing c.args.self.now.calls =
    c.contains.ensures.value ∙ ap (λ ns. fails_at ns c.self.inside.calls) c.deref.ensures.value ∙ ap (λ (v : InputsInMemory). fails_at v.failing v.calls) c.self.view_is in
    (sym fails ∙ c.if-contains.false, c.saturating_add-self-inside-in-None.ensures ∙ ap (λ (v : InputsInMemory). next_count v.calls) c.self.view_is)
