-- Lines that were read, put together.
use Rattle.std.proofs.Common.{◌≡◌, ◌∙◌, ℕ, ◌<◌, Bool, true, false, ◌||◌, ◌&&◌, not, List, [], ◌∷◌, ◌++◌, Some, None, get_or, zero, suc, ◌==◌, length, set, refl, sym, ap, subst, append_assoc, arith}
use Rattle.std.proofs.lemmas.Bool.{eqb-true}
use Rattle.kpn_signals.specs.Arithmetic.{difference}
use Rattle.kpn_formula.specs.declared.instruction.Instruction.{Instruction}
use Rattle.kpn_formula.specs.declared.instruction.Instruction.TheVariants.{Store}
use Rattle.kpn_formula.specs.Programs.{run}
use Rattle.hox_formula.specs.declared.symbol.Mark.{Mark}
use Rattle.hox_formula.specs.declared.symbol.Mark.TheVariants as mark
use Rattle.hox_formula.specs.declared.symbol.Symbol.{Symbol}
use Rattle.hox_formula.specs.declared.symbol.Symbol.TheVariants.{Number, Output, State}
use Rattle.hox_formula.specs.declared.left_side.LeftSide.{LeftSide}
use Rattle.hox_formula.specs.declared.lines.Assignment.{Assignment}
use Rattle.hox_formula.specs.declared.lines.Lines.{Lines}
use Rattle.hox_formula.specs.Expressions.{value, is_flag, uses}
use Rattle.hox_formula.specs.Grammar.{Naming, place_of, sign}
use Rattle.hox_formula.specs.Fragments.{working, Computes}
use Rattle.hox_formula.specs.Parsing.{Parsed}
use Rattle.hox_formula.specs.Formulas.{Line, output, state, started, below, SaysLines, none, line, is_output}
use Rattle.hox_formula.specs.Collecting.{HeadRead, LineRead, Performs, LinesRead}

pub empty_list : (xs : List Symbol) → (length xs == 0) ≡ true → xs ≡ []
empty_list [] h = refl
empty_list (x ∷ xs) h = let none : length (x ∷ xs) ≡ 0 = eqb-true (length (x ∷ xs)) 0 h in absurd (omega (arith, none))

pub no_words : (k : ℕ) → get_or (false ∷ false ∷ false ∷ false ∷ false ∷ false ∷ []) k false ≡ false
no_words zero = refl
no_words (suc zero) = refl
no_words (suc (suc zero)) = refl
no_words (suc (suc (suc zero))) = refl
no_words (suc (suc (suc (suc zero)))) = refl
no_words (suc (suc (suc (suc (suc zero))))) = refl
no_words (suc (suc (suc (suc (suc (suc k)))))) = refl

pub no_flags : (k : ℕ) → get_or (true ∷ true ∷ true ∷ []) k true ≡ true
no_flags zero = refl
no_flags (suc zero) = refl
no_flags (suc (suc zero)) = refl
no_flags (suc (suc (suc k))) = refl

pub output_read : (k : ℕ) (symbols left : List Symbol) → symbols ≡ Output k ∷ left → HeadRead symbols left (record { target = Output k; start = None })
output_read k symbols left is = record { taken = Output k ∷ []; split = is; says = output k }

pub state_read : (i : ℕ) (symbols : List Symbol) → HeadRead (State i ∷ symbols) symbols (record { target = State i; start = None })
state_read i symbols = record { taken = State i ∷ []; split = refl; says = state i }

pub started_read : (i n : ℕ) (symbols more further left : List Symbol) → symbols ≡ sign mark.Open ∷ more → more ≡ Number n ∷ further → further ≡ sign mark.Close ∷ left
    → HeadRead (State i ∷ symbols) left (record { target = State i; start = Some n })
started_read i n symbols more further left open_is number_is close_is = record {
  taken = State i ∷ sign mark.Open ∷ Number n ∷ sign mark.Close ∷ [];
  split = ap (λ (zs : List Symbol). State i ∷ zs) (open_is ∙ ap (λ (zs : List Symbol). sign mark.Open ∷ zs) (number_is ∙ ap (λ (zs : List Symbol). Number n ∷ zs) close_is));
  says = started i n;
}

pub below_read : (i n : ℕ) (symbols more behind further left : List Symbol) → symbols ≡ sign mark.Open ∷ more → more ≡ sign mark.Minus ∷ behind → behind ≡ Number n ∷ further → further ≡ sign mark.Close ∷ left
    → HeadRead (State i ∷ symbols) left (record { target = State i; start = Some (difference 0 n) })
below_read i n symbols more behind further left open_is minus_is number_is close_is = record {
  taken = State i ∷ sign mark.Open ∷ sign mark.Minus ∷ Number n ∷ sign mark.Close ∷ [];
  split = ap (λ (zs : List Symbol). State i ∷ zs) (open_is ∙ ap (λ (zs : List Symbol). sign mark.Open ∷ zs) (minus_is ∙ ap (λ (zs : List Symbol). sign mark.Minus ∷ zs) (number_is ∙ ap (λ (zs : List Symbol). Number n ∷ zs) close_is)));
  says = below i n;
}

pub head_along : (symbols others left : List Symbol) (head : LeftSide) → symbols ≡ others → HeadRead others left head → HeadRead symbols left head
head_along symbols others left head same r = record { taken = r.taken; split = same ∙ r.split; says = r.says }

module _ (names : Naming) where
  pub line_read :
      (symbols mid more left : List Symbol) (a : Assignment) → HeadRead symbols mid a.head → mid ≡ sign mark.Assign ∷ more → place_of names a.head.target ≡ Some a.place
      → Parsed names 0 more left a.fragment → LineRead names symbols left a
  line_read symbols mid more left a h assign_is place p = record {
    taken = h.taken ++ (sign mark.Assign ∷ p.taken);
    line = record { head = a.head; place = a.place; expression = p.expression };
    split = h.split ∙ ap (λ (zs : List Symbol). h.taken ++ zs) (assign_is ∙ ap (λ (zs : List Symbol). sign mark.Assign ∷ zs) p.split) ∙ sym (append_assoc h.taken (sign mark.Assign ∷ p.taken) left);
    says = record { before = h.taken; behind = p.taken; split = refl; head = h.says; place = place; says = p.says };
    head = refl;
    place = refl;
    means = p.means;
  }

  pub no_lines : (symbols : List Symbol) (r : Lines) → symbols ≡ [] → r.code.items ≡ [] → r.heads.items ≡ [] → ((k : ℕ) → k < 6 → get_or r.words k false ≡ false) → ((k : ℕ) → k < 3 → get_or r.flags k true ≡ true) → LinesRead names symbols r
  no_lines symbols r is code heads words flags = record {
    lines = [];
    says = subst (λ (zs : List Symbol). SaysLines names zs []) (sym is) none;
    performs = λ rest vs. ap (λ (c : List Instruction). run (c ++ rest) (working vs [])) code;
    heads = heads;
    words = words;
    flags = flags;
  }

  performs_line :
      (code xs more : List Instruction) (l : Line) (ls : List Line) → code ≡ xs ++ (Store l.place ∷ more) → Computes xs l.expression → Performs more ls → Performs code (l ∷ ls)
  performs_line code xs more l ls is computes performs rest vs =
      ap (λ (c : List Instruction). run (c ++ rest) (working vs [])) is
      ∙ ap (λ (c : List Instruction). run c (working vs [])) (append_assoc xs (Store l.place ∷ more) rest)
      ∙ computes.runs (Store l.place ∷ (more ++ rest)) vs []
      ∙ performs rest (set vs l.place (value l.expression vs))

  pub lines_read :
      (symbols mid more : List Symbol) (a : Assignment) (others r : Lines) → LineRead names symbols mid a → mid ≡ sign mark.Semicolon ∷ more → LinesRead names more others
      → r.code.items ≡ a.fragment.code.items ++ (Store a.place ∷ others.code.items) → r.heads.items ≡ a.head ∷ others.heads.items
      → ((k : ℕ) → k < 6 → get_or r.words k false ≡ (get_or a.fragment.facts.words k false || get_or others.words k false))
      → ((k : ℕ) → k < 3 → get_or r.flags k true ≡ ((not (is_output k a.head.target) || a.fragment.facts.is_flag) && get_or others.flags k true))
      → LinesRead names symbols r
  lines_read symbols mid more a others r l semicolon_is ls code heads words flags = record {
    lines = l.line ∷ ls.lines;
    says = subst (λ (zs : List Symbol). SaysLines names zs (l.line ∷ ls.lines)) (sym (l.split ∙ ap (λ (zs : List Symbol). l.taken ++ zs) semicolon_is)) (line l.taken more l.line ls.lines l.says ls.says);
    performs = performs_line r.code.items a.fragment.code.items others.code.items l.line ls.lines
        (code ∙ ap (λ (k : ℕ). a.fragment.code.items ++ (Store k ∷ others.code.items)) l.place) l.means.computes ls.performs;
    heads = heads ∙ ap (λ (h : LeftSide). h ∷ others.heads.items) l.head ∙ ap (λ (hs : List LeftSide). l.line.head ∷ hs) ls.heads;
    words = λ k small. words k small ∙ ap (λ (b : Bool). b || get_or others.words k false) (l.means.knows.words k small) ∙ ap (λ (b : Bool). uses k l.line.expression || b) (ls.words k small);
    flags = λ k small. flags k small
        ∙ ap (λ (h : LeftSide). (not (is_output k h.target) || a.fragment.facts.is_flag) && get_or others.flags k true) l.head
        ∙ ap (λ (b : Bool). (not (is_output k l.line.head.target) || b) && get_or others.flags k true) l.means.knows.is_flag
        ∙ ap (λ (b : Bool). (not (is_output k l.line.head.target) || is_flag l.line.expression) && b) (ls.flags k small);
  }
