-- A tree with each of its places moved, node by node.
use Rattle.std.specs.Prelude.{map, option_map}
use Rattle.lucy_tree.specs.declared.marks.Span.{Span}
use Rattle.lucy_tree.specs.declared.marks.Name.{Name}
use Rattle.lucy_tree.specs.declared.marks.Number.{Number}
use Rattle.lucy_tree.specs.declared.marks.Int.{Int}
use Rattle.lucy_tree.specs.declared.marks.Then.{Then}
use Rattle.lucy_tree.specs.declared.marks.Chain.{Chain}
use Rattle.lucy_tree.specs.declared.marks.Bounds.{Bounds}
use Rattle.lucy_tree.specs.declared.terms.Factor.{Factor}
use Rattle.lucy_tree.specs.declared.terms.Factor.TheVariants as factor
use Rattle.lucy_tree.specs.declared.terms.Product.{Product}
use Rattle.lucy_tree.specs.declared.terms.Added.{Added}
use Rattle.lucy_tree.specs.declared.terms.Term.{Term}
use Rattle.lucy_tree.specs.declared.conditions.Cond.{Cond, Cond-F, roll-Cond, fold-Cond}
use Rattle.lucy_tree.specs.declared.conditions.Unary.{Unary, fold-Unary}
use Rattle.lucy_tree.specs.declared.conditions.Unary.TheOpen.{Unary-F}
use Rattle.lucy_tree.specs.declared.conditions.Unary.TheVariants as form
use Rattle.lucy_tree.specs.declared.objects.Field.{Field}
use Rattle.lucy_tree.specs.declared.objects.Field.TheOpen.{Field-F}
use Rattle.lucy_tree.specs.declared.objects.Field.TheFolds.{fold-Field}
use Rattle.lucy_tree.specs.declared.objects.Field.TheVariants as field
use Rattle.lucy_tree.specs.declared.objects.Object.{Object}
use Rattle.lucy_tree.specs.declared.objects.Value.{Value}
use Rattle.lucy_tree.specs.declared.objects.Value.TheVariants as value
use Rattle.lucy_tree.specs.declared.objects.Setting.{Setting}
use Rattle.lucy_tree.specs.declared.objects.Start.{Start}
use Rattle.lucy_tree.specs.declared.plans.Invariant.{Invariant}
use Rattle.lucy_tree.specs.declared.plans.Param.{Param}
use Rattle.lucy_tree.specs.declared.plans.Assigned.{Assigned}
use Rattle.lucy_tree.specs.declared.plans.Assigned.TheVariants as assigned
use Rattle.lucy_tree.specs.declared.plans.Change.{Change}
use Rattle.lucy_tree.specs.declared.plans.Change.TheVariants as change
use Rattle.lucy_tree.specs.declared.plans.Branch.{Branch}
use Rattle.lucy_tree.specs.declared.plans.Txn.{Txn}
use Rattle.lucy_tree.specs.declared.plans.Point.{Point}
use Rattle.lucy_tree.specs.declared.plans.Except.{Except}
use Rattle.lucy_tree.specs.declared.plans.Segment.{Segment}
use Rattle.lucy_tree.specs.declared.plans.Depth.{Depth}
use Rattle.lucy_tree.specs.declared.plans.Tree.{Tree}
use Rattle.lucy_tree.specs.Words.{Word, called, plain}

-- where each place is moved to
module _ (to : Span → Span) where
  abbrev pub moved_word : Word → Word
  moved_word (called text s) = called text (to s)
  moved_word (plain kind s) = plain kind (to s)

  -- ---- names and numbers

  abbrev pub moved_name : Name → Name
  moved_name n = record { text = n.text; span = to n.span }

  abbrev pub moved_number : Number → Number
  moved_number n = record { value = n.value; span = to n.span }

  abbrev pub moved_int : Int → Int
  moved_int i = record { minus = option_map to i.minus; number = moved_number i.number }

  abbrev pub moved_then : {A B : Type 0} → (A → B) → Then A → Then B
  moved_then f t = record { mark = to t.mark; item = f t.item }

  abbrev pub moved_chain : {A B : Type 0} → (A → B) → Chain A → Chain B
  moved_chain f c = record { first = f c.first; others = map (moved_then f) c.others }

  abbrev pub moved_path : Chain Name → Chain Name
  moved_path = moved_chain moved_name

  abbrev pub moved_bounds : Bounds → Bounds
  moved_bounds b = record { in_word = to b.in_word; low = moved_int b.low; dots = to b.dots; high = moved_int b.high }

  -- ---- terms

  abbrev pub moved_factor : Factor → Factor
  moved_factor (factor.Number n) = factor.Number (moved_number n)
  moved_factor (factor.Path p) = factor.Path (moved_path p)
  moved_factor (factor.Size word open_paren set close_paren) = factor.Size (to word) (to open_paren) (moved_path set) (to close_paren)

  abbrev pub moved_product : Product → Product
  moved_product p = record { first = moved_factor p.first; second = option_map (moved_then moved_factor) p.second }

  abbrev pub moved_added : Added → Added
  moved_added a = record { sign = a.sign; mark = to a.mark; product = moved_product a.product }

  abbrev pub moved_term : Term → Term
  moved_term t = record { minus = option_map to t.minus; first = moved_product t.first; others = map moved_added t.others }

  -- ---- conditions: of parts that are moved

  abbrev pub unary_moved : Unary-F Unary Cond → Unary
  unary_moved (Unary-F.Not word inner) = form.Not (to word) inner
  unary_moved (Unary-F.True word) = form.True (to word)
  unary_moved (Unary-F.False word) = form.False (to word)
  unary_moved (Unary-F.Parens open_paren inner close_paren) = form.Parens (to open_paren) inner (to close_paren)
  unary_moved (Unary-F.Member atom word set) = form.Member (moved_name atom) (to word) (moved_path set)
  unary_moved (Unary-F.Compare left rel mark right) = form.Compare (moved_term left) rel (to mark) (moved_term right)
  unary_moved (Unary-F.Flag path) = form.Flag (moved_path path)

  abbrev pub cond_moved : Cond-F Unary Cond → Cond
  cond_moved c = roll-Cond (record { left = moved_chain (moved_chain (λ u. u)) c.left; implied = option_map (moved_then (λ d. d)) c.implied })

  abbrev pub moved_unary : Unary → Unary
  moved_unary = fold-Unary Unary Cond unary_moved cond_moved

  abbrev pub moved_cond : Cond → Cond
  moved_cond = fold-Cond Unary Cond unary_moved cond_moved

  -- ---- the object and its start

  abbrev pub field_moved : Field-F Field → Field
  field_moved (Field-F.Number ex word name bounds semicolon) = field.Number ex (to word) (moved_name name) (moved_bounds bounds) (to semicolon)
  field_moved (Field-F.Flag fl word name semicolon) = field.Flag fl (to word) (moved_name name) (to semicolon)
  field_moved (Field-F.Set word name open_brace atoms close_brace semicolon) =
      field.Set (to word) (moved_name name) (to open_brace) (map moved_name atoms) (to close_brace) (to semicolon)
  field_moved (Field-F.Pair word name open_brace fields close_brace) = field.Pair (to word) (moved_name name) (to open_brace) fields (to close_brace)

  abbrev pub moved_field : Field → Field
  moved_field = fold-Field Field field_moved

  abbrev pub moved_object : Object → Object
  moved_object o = record { word = to o.word; open_brace = to o.open_brace; fields = map moved_field o.fields; close_brace = to o.close_brace }

  abbrev pub moved_value : Value → Value
  moved_value (value.Int i) = value.Int (moved_int i)
  moved_value (value.On word) = value.On (to word)
  moved_value (value.Off word) = value.Off (to word)
  moved_value (value.Set open_brace atoms close_brace) = value.Set (to open_brace) (map moved_name atoms) (to close_brace)

  abbrev pub moved_setting : Setting → Setting
  moved_setting s = record { path = moved_path s.path; equal = to s.equal; value = moved_value s.value; semicolon = to s.semicolon }

  abbrev pub moved_start : Start → Start
  moved_start s = record { word = to s.word; open_brace = to s.open_brace; settings = map moved_setting s.settings; close_brace = to s.close_brace }

  -- ---- the plan

  abbrev pub moved_invariant : Invariant → Invariant
  moved_invariant i = record { word = to i.word; cond = moved_cond i.cond; semicolon = to i.semicolon }

  abbrev pub moved_param : Param → Param
  moved_param p = record { name = moved_name p.name; bounds = moved_bounds p.bounds }

  abbrev pub moved_assigned : Assigned → Assigned
  moved_assigned (assigned.Term t) = assigned.Term (moved_term t)
  moved_assigned (assigned.On word) = assigned.On (to word)
  moved_assigned (assigned.Off word) = assigned.Off (to word)

  abbrev pub moved_change : Change → Change
  moved_change (change.Assign path mark value semicolon) = change.Assign (moved_path path) (to mark) (moved_assigned value) (to semicolon)
  moved_change (change.Insert word atom into_word set semicolon) = change.Insert (to word) (moved_name atom) (to into_word) (moved_path set) (to semicolon)

  abbrev pub moved_branch : Branch → Branch
  moved_branch b = record { word = to b.word; cond = moved_cond b.cond; open_brace = to b.open_brace; changes = map moved_change b.changes; close_brace = to b.close_brace }

  abbrev pub moved_txn : Txn → Txn
  moved_txn t = record {
    word = to t.word;
    name = moved_name t.name;
    open_paren = to t.open_paren;
    params = option_map (moved_chain moved_param) t.params;
    close_paren = to t.close_paren;
    open_brace = to t.open_brace;
    branches = map moved_branch t.branches;
    close_brace = to t.close_brace;
  }

  abbrev pub moved_point : Point → Point
  moved_point p = record { open_paren = to p.open_paren; numbers = moved_chain moved_int p.numbers; close_paren = to p.close_paren }

  abbrev pub moved_except : Except → Except
  moved_except e = record { word = to e.word; first = moved_point e.first; others = map moved_point e.others }

  abbrev pub moved_segment : Segment → Segment
  moved_segment s = record {
    word = to s.word;
    name = moved_name s.name;
    when_word = to s.when_word;
    cond = moved_cond s.cond;
    except = option_map moved_except s.except;
    do_word = to s.do_word;
    txns = map moved_name s.txns;
    semicolon = to s.semicolon;
  }

  abbrev pub moved_depth : Depth → Depth
  moved_depth d = record { word = to d.word; number = moved_number d.number; semicolon = to d.semicolon }

  abbrev pub moved : Tree → Tree
  moved t = record {
    word = to t.word;
    version = moved_number t.version;
    object = moved_object t.object;
    start = moved_start t.start;
    invariant = moved_invariant t.invariant;
    txns = map moved_txn t.txns;
    segments = map moved_segment t.segments;
    depth = option_map moved_depth t.depth;
    end_word = to t.end_word;
  }
