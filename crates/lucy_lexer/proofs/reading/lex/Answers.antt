use Rattle.std.proofs.Common.{◌≡◌, ◌-◌, length, refl, arith, length-drop}
use Rattle.std.proofs.lemmas.List.{take_rest}
use Rattle.lucy_lexer.specs.Reading.{tokens_of, tokens_from}
use Rattle.lucy_lexer.proofs.ReadingLemmas.{rest_of, skips, finds, is_bad, is_done}
use Rattle.lucy_lexer.proofs.reading.lex.Goals as goal

pub places-preserved-in-Skipped : goal.places-preserved-in-Skipped
places-preserved-in-Skipped c =
    let z = c.args.text.now in
    let w = c.in-Skipped.ensures.within in
    let shown = c.in-Skipped.ensures.value in (
      skips c.places.tokens.items c.places.at c.in-Skipped.len z (tokens_from 0 0 z) shown w.0 w.1 c.places.invariant.0,
      let e : length (rest_of c.places.at z) ≡ length z - c.places.at = rw take_rest (length-drop c.places.at z) in omega (arith, w.1),
    )

pub places-preserved : goal.places-preserved
places-preserved c =
    let z = c.args.text.now in
    let w = c.in-Found.ensures.within in (
      rw c.in_ok-push-in-Found.ensures.items (finds c.places.tokens.items c.places.at c.in-Found.len z (tokens_from 0 0 z) c.in-Found.kind c.in-Found.ensures.value w.0 w.1 c.places.invariant.0),
      let e : length (rest_of c.places.at z) ≡ length z - c.places.at = rw take_rest (length-drop c.places.at z) in omega (arith, w.1),
    )

pub returns-in-BadByte : goal.returns-in-BadByte
unfolding tokens_of
returns-in-BadByte c = λ _. is_bad c.places.tokens.items c.places.at c.args.text.now (tokens_from 0 0 c.args.text.now) _ _ c.in-BadByte.ensures.value c.places-test.true (λ _. refl) c.places.invariant.0

pub returns-in-LongNumber : goal.returns-in-LongNumber
unfolding tokens_of
returns-in-LongNumber c = λ _. is_bad c.places.tokens.items c.places.at c.args.text.now (tokens_from 0 0 c.args.text.now) _ _ c.in-LongNumber.ensures.value c.places-test.true (λ _. refl) c.places.invariant.0

pub returns-in-LongName : goal.returns-in-LongName
unfolding tokens_of
returns-in-LongName c = λ _. is_bad c.places.tokens.items c.places.at c.args.text.now (tokens_from 0 0 c.args.text.now) _ _ c.in-LongName.ensures.value c.places-test.true (λ _. refl) c.places.invariant.0

pub returns : goal.returns
unfolding tokens_of
returns c = is_done c.places.tokens.items c.places.at c.args.text.now (tokens_from 0 0 c.args.text.now) c.places-test.false c.places.invariant.0
