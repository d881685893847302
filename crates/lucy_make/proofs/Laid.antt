-- The text of a made plan is the layout of its words.
use Rattle.std.proofs.Common.{◌≡◌, ℕ, ◌+◌, List, [], ◌∷◌, ◌++◌, refl, sym, ◌∙◌, ap, append_assoc, append-nil}
use Rattle.std.specs.Prelude.{codes, decimal}
use Rattle.lucy_make.specs.Layout.{Word, said, laid, number_words, all_numbers, object_words, below_words, more_words, all_below_words, invariant_words, add_words, each_words, flip_words, name_words, segment_words, low_head, high_head, PlanIsLaid}
use Rattle.lucy_make.specs.PlanTexts.{line, number_line, number_lines, object_text, below_next, more_below, all_below, invariant_text, add_text, each_place, flip_text, add_name, segment_text, plan_text}

pub line_pieces : (h a s m b t e r : List ℕ) → ((((h ++ (a ++ s)) ++ m) ++ (b ++ t)) ++ e) ++ r ≡ h ++ (a ++ (s ++ (m ++ (b ++ (t ++ (e ++ r))))))
line_pieces h a s m b t e r = simp append_assoc

pub number_laid : (i height : ℕ) (rest : List Word) → number_line i height ++ laid rest ≡ laid (number_words i height ++ rest)
number_laid i height rest =
    line_pieces (codes "max ") (codes "x" ++ decimal i) (codes " ") (codes "in 0 .. ") ([] ++ decimal height) (codes " ") (line (codes ";")) (laid rest)

pub numbers_laid : (i : ℕ) (heights : List ℕ) (rest : List Word) → number_lines i heights ++ laid rest ≡ laid (all_numbers i heights ++ rest)
numbers_laid i [] rest = refl
numbers_laid i (height ∷ heights) rest =
    append_assoc (number_line i height) (number_lines (i + 1) heights) (laid rest)
    ∙ ap (λ t. number_line i height ++ t) (numbers_laid (i + 1) heights rest)
    ∙ number_laid i height (all_numbers (i + 1) heights ++ rest)

abbrev pub object_end : List Word
object_end = said (codes "orflag") ∷ said (codes "f") ∷ said (codes ";") ∷ said (codes "}") ∷ []

pub object_laid : (heights : List ℕ) (rest : List Word) → object_text heights ++ laid rest ≡ laid (object_words heights ++ rest)
object_laid heights rest =
    ap (λ t. codes "object {" ++ 10 ∷ t)
    (append_assoc (number_lines 0 heights) (line (codes "orflag f ;") ++ line (codes "}")) (laid rest)
    ∙ numbers_laid 0 heights (object_end ++ rest)
    ∙ ap laid (sym (append_assoc (all_numbers 0 heights) object_end rest)))

pub below_pieces : (a s m b t n c u r : List ℕ) → (((((a ++ s) ++ m) ++ (b ++ t)) ++ n) ++ (c ++ u)) ++ r ≡ a ++ (s ++ (m ++ (b ++ (t ++ (n ++ (c ++ (u ++ r)))))))
below_pieces a s m b t n c u r = simp append_assoc

pub below_laid : (i gap : ℕ) (rest : List Word) → below_next i gap ++ laid rest ≡ laid (below_words i gap ++ rest)
below_laid i gap rest =
    below_pieces (codes "x" ++ decimal i) (codes " ") (codes "<= ") (codes "x" ++ decimal (i + 1)) (codes " ") (codes "+ ") ([] ++ decimal gap) (codes " ") (laid rest)

pub more_laid : (i : ℕ) (gaps : List ℕ) (rest : List Word) → more_below i gaps ++ laid rest ≡ laid (more_words i gaps ++ rest)
more_laid i [] rest = refl
more_laid i (gap ∷ gaps) rest =
    ap (λ t. codes "and " ++ t)
    (append_assoc (below_next i gap) (more_below (i + 1) gaps) (laid rest)
    ∙ ap (λ t. below_next i gap ++ t) (more_laid (i + 1) gaps rest)
    ∙ below_laid i gap (more_words (i + 1) gaps ++ rest))

pub all_below_laid : (gaps : List ℕ) (rest : List Word) → all_below gaps ++ laid rest ≡ laid (all_below_words gaps ++ rest)
all_below_laid [] rest = refl
all_below_laid (gap ∷ gaps) rest =
    append_assoc (below_next 0 gap) (more_below 1 gaps) (laid rest)
    ∙ ap (λ t. below_next 0 gap ++ t) (more_laid 1 gaps rest)
    ∙ below_laid 0 gap (more_words 1 gaps ++ rest)

pub invariant_laid : (gaps : List ℕ) (rest : List Word) → invariant_text gaps ++ laid rest ≡ laid (invariant_words gaps ++ rest)
invariant_laid gaps rest =
    ap (λ t. codes "invariant " ++ t)
    (append_assoc (all_below gaps) (line (codes ";")) (laid rest)
    ∙ all_below_laid gaps (said (codes ";") ∷ rest)
    ∙ ap laid (sym (append_assoc (all_below_words gaps) (said (codes ";") ∷ []) rest)))

pub add_pieces : (h a s e w b t m c u n z r : List ℕ) → (((((h ++ (a ++ s)) ++ e) ++ w) ++ ((((b ++ t) ++ m) ++ (c ++ u)) ++ n)) ++ z) ++ r
    ≡ h ++ (a ++ (s ++ (e ++ (w ++ (b ++ (t ++ (m ++ (c ++ (u ++ (n ++ (z ++ r)))))))))))
add_pieces h a s e w b t m c u n z r = simp append_assoc

pub add_laid : (i : ℕ) (rest : List Word) → add_text i ++ laid rest ≡ laid (add_words i ++ rest)
add_laid i rest =
    add_pieces (codes "txn ") (codes "add" ++ decimal i) (codes " ") (line (codes "( n in 0 .. 9 ) {")) (line (codes "when true {")) (codes "x" ++ decimal i) (codes " ") (codes ":= ")
    (codes "x" ++ decimal i) (codes " ") (line (codes "+ n ;")) (line (codes "}") ++ line (codes "}")) (laid rest)

pub name_laid : (i : ℕ) (rest : List Word) → add_name i ++ laid rest ≡ laid (name_words i ++ rest)
name_laid i rest = simp append_assoc

-- where each text is the layout of its words, all of them are
pub each_laid : (text : ℕ → List ℕ) (words : ℕ → List Word) → ((i : ℕ) (rest : List Word) → text i ++ laid rest ≡ laid (words i ++ rest)) → (i : ℕ) (heights : List ℕ) (rest : List Word) → each_place text i heights ++ laid rest ≡ laid (each_words words i heights ++ rest)
each_laid text words one i [] rest = refl
each_laid text words one i (height ∷ heights) rest =
    append_assoc (text i) (each_place text (i + 1) heights) (laid rest)
    ∙ ap (λ t. text i ++ t) (each_laid text words one (i + 1) heights rest)
    ∙ one i (each_words words (i + 1) heights ++ rest)
    ∙ ap laid (sym (append_assoc (words i) (each_words words (i + 1) heights) rest))

pub flip_laid : (rest : List Word) → flip_text ++ laid rest ≡ laid (flip_words ++ rest)
flip_laid rest = refl

pub segment_laid : (head : List ℕ) (words : List Word) → ((rest : List Word) → head ++ laid rest ≡ laid (words ++ rest)) → (heights : List ℕ) (rest : List Word) → segment_text head heights ++ laid rest ≡ laid (segment_words words heights ++ rest)
segment_laid head words begins heights rest =
    let names = each_place add_name 0 heights in
    let spelled_names = each_words name_words 0 heights in
    let last = said (codes ";") in
    append_assoc (head ++ names) (line (codes ";")) (laid rest)
    ∙ append_assoc head names (line (codes ";") ++ laid rest)
    ∙ ap (λ t. head ++ t) (each_laid add_name name_words name_laid 0 heights (last ∷ rest))
    ∙ begins (spelled_names ++ last ∷ rest)
    ∙ ap laid (sym (append_assoc words (spelled_names ++ last ∷ []) rest ∙ ap (λ t. words ++ t) (append_assoc spelled_names (last ∷ []) rest)))

pub regrouped : (a b c d e f g h k : List ℕ) → (((a ++ b) ++ c) ++ d) ++ ((((e ++ f) ++ g) ++ h) ++ k) ≡ (a ++ (b ++ (c ++ (d ++ (e ++ (f ++ (g ++ h))))))) ++ k
regrouped a b c d e f g h k = simp append_assoc

pub plan_is_laid : PlanIsLaid
unfolding plan_text
plan_is_laid heights gaps =
    let low = codes "segment low when not f do " in
    let high = codes "segment high when f do " in
    let low_words = segment_words low_head heights in
    let high_words = segment_words high_head heights in
    let high_laid : segment_text high heights ≡ laid high_words = sym (append-nil (segment_text high heights)) ∙ segment_laid high high_head (λ rest. refl) heights [] ∙ ap laid (append-nil high_words) in
    let segments_laid = ap (λ t. segment_text low heights ++ t) high_laid ∙ segment_laid low low_head (λ rest. refl) heights high_words in
    let flipped = ap (λ t. flip_text ++ t) segments_laid ∙ flip_laid (low_words ++ high_words) in
    let added = ap (λ t. each_place add_text 0 heights ++ t) flipped ∙ each_laid add_text add_words add_laid 0 heights (flip_words ++ (low_words ++ high_words)) in
    let txns = each_words add_words 0 heights ++ (flip_words ++ (low_words ++ high_words)) in
    let bounded = ap (λ t. invariant_text gaps ++ t) added ∙ invariant_laid gaps txns in
    let started = ap (λ t. (line (codes "start {") ++ line (codes "}")) ++ t) bounded in
    let whole = ap (λ t. object_text heights ++ t) started ∙ object_laid heights (said (codes "start") ∷ said (codes "{") ∷ said (codes "}") ∷ (invariant_words gaps ++ txns)) in
    regrouped (line (codes "lucy 1")) (object_text heights) (line (codes "start {") ++ line (codes "}")) (invariant_text gaps) (each_place add_text 0 heights) flip_text (segment_text low heights) (segment_text high heights) (line (codes "end"))
    ∙ ap (λ t. (line (codes "lucy 1") ++ t) ++ line (codes "end")) whole
