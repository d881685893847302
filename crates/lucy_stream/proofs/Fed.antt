-- What a stream was fed.
use Rattle.std.proofs.Common.{◌≡◌, ℕ, ◌≤◌, List, [], ◌∷◌, ◌++◌, length, Option, Some, None, Result, Ok, Err, OnOk, OnErr, IsErr, refl, sym, ap, ◌∙◌, arith}
use Rattle.std.specs.declared.alloc.AllocError.{AllocError}
use Rattle.std.proofs.Math.Path.{subst}
use Rattle.std.proofs.lemmas.List.{append-nil}
use Rattle.lucy_plan.specs.declared.parts.PlanParts.{PlanParts}
use Rattle.lucy_cert.specs.declared.error.CertError.{CertError}
use Rattle.lucy_cert.specs.declared.reader.Phase.{Phase}
use Rattle.lucy_cert.specs.Feeding as feeding
use Rattle.lucy_cert.specs.Lines.{CutsDoNotMatter}
use Rattle.lucy_stream.specs.declared.error.StreamError.{StreamError}
use Rattle.lucy_stream.specs.declared.error.StreamError.TheVariants.{OutOfMemory}
use Rattle.lucy_stream.specs.declared.hearing.Hearing.{Hearing}
use Rattle.lucy_stream.specs.declared.stream.Stream.{Stream}
use Rattle.lucy_stream.specs.Hearings.{begun, heard}
use Rattle.lucy_stream.specs.Laws.{JudgedAsRead, answered}
use Rattle.lucy_stream.specs.Streams.{IsFed, HasFailed}
use Rattle.lucy_stream.specs.Verifying.{verified, told, Tells}

abbrev Phased : Type 0
Phased = Option (Phase Hearing)

-- nothing was fed
pub fed_none : CutsDoNotMatter heard → (plan : PlanParts) (stream : Stream) → stream.reader ≡ Some (feeding.begun (begun plan)) → IsFed plan [] stream
unfolding IsFed
fed_none cuts plan stream is = is ∙ ap Some (cuts (begun plan) [])

-- one piece more
twice : CutsDoNotMatter heard → (h : Hearing) (text piece : List ℕ)
    → feeding.phase_after heard (feeding.phase_after heard (feeding.begun h) text) piece ≡ feeding.phase_after heard (feeding.begun h) (text ++ piece)
twice cuts h text piece = cuts h (text ∷ piece ∷ []) ∙ ap (λ ys. feeding.phase_after heard (feeding.begun h) (text ++ ys)) (append-nil piece)

pub fed_more : CutsDoNotMatter heard → (plan : PlanParts) (text piece : List ℕ) (old new : Stream) (result : Result (Unit {0}) AllocError)
    → feeding.Feeds heard old.reader piece result new.reader → IsFed plan text old → OnOk result (IsFed plan (text ++ piece) new)
unfolding IsFed
fed_more cuts plan text piece old new result feeds fed = by_result result (subst (λ (r : Phased). feeding.Feeds heard r piece result new.reader) fed feeds)
  where
    by_result : (r : Result (Unit {0}) AllocError) → feeding.Feeds heard (Some (feeding.phase_after heard (feeding.begun (begun plan)) text)) piece r new.reader
        → OnOk r (new.reader ≡ Some (feeding.phase_after heard (feeding.begun (begun plan)) (text ++ piece)))
    by_result (Ok u) f = f ∙ ap Some (twice cuts (begun plan) text piece)
    by_result (Err e) f = tt

fails_by : (o : Phased) (piece : List ℕ) (r : Result (Unit {0}) AllocError) (new : Phased) → feeding.Feeds heard o piece r new → OnErr r (new ≡ None)
fails_by None piece (Ok u) new f = tt
fails_by None piece (Err e) new f = f
fails_by (Some p) piece (Ok u) new f = tt
fails_by (Some p) piece (Err e) new f = f

pub fails : (piece : List ℕ) (old new : Stream) (result : Result (Unit {0}) AllocError) → feeding.Feeds heard old.reader piece result new.reader → OnErr result (HasFailed new)
unfolding HasFailed
fails piece old new result feeds = fails_by old.reader piece result new.reader feeds

stays_by : (o : Phased) (piece : List ℕ) (r : Result (Unit {0}) AllocError) (new : Phased) → o ≡ None → feeding.Feeds heard o piece r new → IsErr r
stays_by None piece (Ok u) new e f = absurd f
stays_by None piece (Err x) new e f = refl
stays_by (Some p) piece r new e f = absurd (cc)

pub stays : (piece : List ℕ) (old new : Stream) (result : Result (Unit {0}) AllocError) → feeding.Feeds heard old.reader piece result new.reader → HasFailed old → IsErr result
unfolding HasFailed
stays piece old new result feeds failed = stays_by old.reader piece result new.reader failed feeds

-- the whole text was fed
pub whole : JudgedAsRead → (plan : PlanParts) (text : List ℕ) (stream : Stream) (read : Result Hearing CertError) (answer : Result PlanParts StreamError)
    → feeding.Finishes stream.reader read → answer ≡ answered read → IsFed plan text stream → answer ≡ told plan (verified plan text)
unfolding IsFed
whole as_read plan text stream read answer finishes is fed =
    is ∙ ap answered (subst (λ (r : Phased). feeding.Finishes r read) fed finishes) ∙ as_read plan text

pub nothing_told : (stream : Stream) (read : Result Hearing CertError) (answer : Result PlanParts StreamError)
    → feeding.Finishes stream.reader read → answer ≡ answered read → HasFailed stream → answer ≡ Err OutOfMemory
unfolding HasFailed
nothing_told stream read answer finishes is failed = is ∙ ap answered (subst (λ (r : Phased). feeding.Finishes r read) failed finishes)

-- ---- a text that was fed to its end

tells : (plan : PlanParts) (why : Option StreamError) → Tells plan why (told plan why)
tells plan None = (refl, refl)
tells plan (Some e) = λ other. refl

no_rest : (rest : List ℕ) → length rest ≤ 0 → rest ≡ []
no_rest [] h = refl
no_rest (b ∷ bs) h = absurd (omega (arith, h))

pub at_end : (plan : PlanParts) (text front rest : List ℕ) (stream : Stream) (answer : Result PlanParts StreamError) → IsFed plan front stream → front ++ rest ≡ text → length rest ≤ 0
    → ((p : PlanParts) (t : List ℕ) → IsFed p t stream → answer ≡ told p (verified p t)) → Tells plan (verified plan text) answer
at_end plan text front rest stream answer fed is over finishes =
    let whole : front ≡ text = sym (append-nil front) ∙ ap (λ (r : List ℕ). front ++ r) (sym (no_rest rest over)) ∙ is in
    subst (λ (r : Result PlanParts StreamError). Tells plan (verified plan text) r) (sym (finishes plan text (subst (λ (t : List ℕ). IsFed plan t stream) whole fed))) (tells plan (verified plan text))
