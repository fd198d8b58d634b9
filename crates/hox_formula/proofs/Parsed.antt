-- Parts of the symbols that say expressions, put together.
use Rattle.std.proofs.Common.{◌≡◌, ◌∙◌, ℕ, ◌+◌, ◌<◌, true, List, [], ◌∷◌, ◌++◌, Some, sym, ap, append_assoc}
use Rattle.kpn_formula.specs.declared.instruction.Operation.{Operation}
use Rattle.hox_formula.specs.declared.symbol.Mark.{Mark}
use Rattle.hox_formula.specs.declared.symbol.Mark.TheVariants as mark
use Rattle.hox_formula.specs.declared.symbol.Symbol.{Symbol}
use Rattle.hox_formula.specs.declared.symbol.Symbol.TheVariants.{Number}
use Rattle.hox_formula.specs.declared.fragment.Fragment.{Fragment}
use Rattle.hox_formula.specs.Expressions.{Expression, Constant, Place, Size, Applied, Choice}
use Rattle.hox_formula.specs.Grammar.{Naming, Says, number, name, nested, absolute, call, front, between, choice, tighter, place_of, level_of, joined, is_front, fronted, called, sign}
use Rattle.hox_formula.specs.Fragments.{Means}
use Rattle.hox_formula.specs.Parsing.{Parsed}

-- one part, a sign, and another part
join_split : (symbols xs mid more ys left : List Symbol) (m : Mark) → symbols ≡ xs ++ mid → mid ≡ sign m ∷ more → more ≡ ys ++ left → symbols ≡ (xs ++ (sign m ∷ ys)) ++ left
join_split symbols xs mid more ys left m first sign_is second =
    first ∙ ap (λ (zs : List Symbol). xs ++ zs) (sign_is ∙ ap (λ (zs : List Symbol). sign m ∷ zs) second) ∙ sym (append_assoc xs (sign m ∷ ys) left)

-- one part, and a sign
close_split : (symbols xs mid left : List Symbol) (m : Mark) → symbols ≡ xs ++ mid → mid ≡ sign m ∷ left → symbols ≡ (xs ++ (sign m ∷ [])) ++ left
close_split symbols xs mid left m first sign_is = first ∙ ap (λ (zs : List Symbol). xs ++ zs) sign_is ∙ sym (append_assoc xs (sign m ∷ []) left)

module _ (names : Naming) where
  pub parsed_number : (n : ℕ) (symbols left : List Symbol) (f : Fragment) → symbols ≡ Number n ∷ left → Means f (Constant n) → Parsed names 12 symbols left f
  parsed_number n symbols left f split means = record { taken = Number n ∷ []; expression = Constant n; split = split; says = number n; means = means }

  pub parsed_name : (s : Symbol) (k : ℕ) (symbols left : List Symbol) (f : Fragment) → symbols ≡ s ∷ left → place_of names s ≡ Some k → Means f (Place k) → Parsed names 12 symbols left f
  parsed_name s k symbols left f split place means = record { taken = s ∷ []; expression = Place k; split = split; says = name s k place; means = means }

  pub parsed_along : (level : ℕ) (symbols others left : List Symbol) (f : Fragment) → symbols ≡ others → Parsed names level others left f → Parsed names level symbols left f
  parsed_along level symbols others left f same p = record { taken = p.taken; expression = p.expression; split = same ∙ p.split; says = p.says; means = p.means }

  pub parsed_tighter : (level : ℕ) (symbols left : List Symbol) (f : Fragment) → Parsed names (level + 1) symbols left f → Parsed names level symbols left f
  parsed_tighter level symbols left f p = record { taken = p.taken; expression = p.expression; split = p.split; says = tighter level p.taken p.expression p.says; means = p.means }

  pub parsed_between :
      (m : Mark) (level : ℕ) (symbols mid more left : List Symbol) (first second f : Fragment) → 0 < level → level_of m ≡ level → mid ≡ sign m ∷ more
      → Parsed names level symbols mid first → Parsed names (level + 1) more left second
      → ((d e : Expression) → Means first d → Means second e → Means f (joined m d e)) → Parsed names level symbols left f
  parsed_between m level symbols mid more left first second f positive level_is sign_is p q makes = record {
    taken = p.taken ++ (sign m ∷ q.taken);
    expression = joined m p.expression q.expression;
    split = join_split symbols p.taken mid more q.taken left m p.split sign_is q.split;
    says = between m level p.taken q.taken p.expression q.expression positive level_is p.says q.says;
    means = makes p.expression q.expression p.means q.means;
  }

  pub parsed_choice :
      (xs symbols mid more left : List Symbol) (c : Expression) (condition first second f : Fragment) → Says names 1 xs c → Means condition c
      → Parsed names 0 symbols mid first → mid ≡ sign mark.Colon ∷ more → Parsed names 0 more left second
      → ((c d e : Expression) → Means condition c → Means first d → Means second e → Means f (Choice c d e)) → Parsed names 0 (xs ++ (sign mark.Question ∷ symbols)) left f
  parsed_choice xs symbols mid more left c condition first second f says means p sign_is q makes = record {
    taken = xs ++ (sign mark.Question ∷ p.taken ++ (sign mark.Colon ∷ q.taken));
    expression = Choice c p.expression q.expression;
    split = ap (λ (zs : List Symbol). xs ++ (sign mark.Question ∷ zs)) (join_split symbols p.taken mid more q.taken left mark.Colon p.split sign_is q.split)
        ∙ sym (append_assoc xs (sign mark.Question ∷ p.taken ++ (sign mark.Colon ∷ q.taken)) left);
    says = choice xs p.taken q.taken c p.expression q.expression says p.says q.says;
    means = makes c p.expression q.expression means p.means q.means;
  }

  pub parsed_front :
      (m : Mark) (symbols more left : List Symbol) (operand f : Fragment) → is_front m ≡ true → symbols ≡ sign m ∷ more → Parsed names 11 more left operand
      → ((e : Expression) → Means operand e → Means f (fronted m e)) → Parsed names 11 symbols left f
  parsed_front m symbols more left operand f is sign_is p makes = record {
    taken = sign m ∷ p.taken;
    expression = fronted m p.expression;
    split = sign_is ∙ ap (λ (zs : List Symbol). sign m ∷ zs) p.split;
    says = front m p.taken p.expression is p.says;
    means = makes p.expression p.means;
  }

  pub parsed_nested : (symbols mid left : List Symbol) (f : Fragment) → Parsed names 0 symbols mid f → mid ≡ sign mark.Close ∷ left → Parsed names 12 (sign mark.Open ∷ symbols) left f
  parsed_nested symbols mid left f p sign_is = record {
    taken = sign mark.Open ∷ p.taken ++ (sign mark.Close ∷ []);
    expression = p.expression;
    split = ap (λ (zs : List Symbol). sign mark.Open ∷ zs) (close_split symbols p.taken mid left mark.Close p.split sign_is);
    says = nested p.taken p.expression p.says;
    means = p.means;
  }

  pub parsed_absolute :
      (symbols more mid left : List Symbol) (inner f : Fragment) → symbols ≡ sign mark.Open ∷ more → Parsed names 0 more mid inner → mid ≡ sign mark.Close ∷ left
      → ((e : Expression) → Means inner e → Means f (Size e)) → Parsed names 12 (sign mark.Abs ∷ symbols) left f
  parsed_absolute symbols more mid left inner f open_is p sign_is makes = record {
    taken = sign mark.Abs ∷ sign mark.Open ∷ p.taken ++ (sign mark.Close ∷ []);
    expression = Size p.expression;
    split = ap (λ (zs : List Symbol). sign mark.Abs ∷ zs) (open_is ∙ ap (λ (zs : List Symbol). sign mark.Open ∷ zs) (close_split more p.taken mid left mark.Close p.split sign_is));
    says = absolute p.taken p.expression p.says;
    means = makes p.expression p.means;
  }

  pub parsed_call :
      (m : Mark) (op : Operation) (symbols more mid further last left : List Symbol) (first second f : Fragment) → called m ≡ Some op → symbols ≡ sign mark.Open ∷ more
      → Parsed names 0 more mid first → mid ≡ sign mark.Comma ∷ further → Parsed names 0 further last second → last ≡ sign mark.Close ∷ left
      → ((d e : Expression) → Means first d → Means second e → Means f (Applied op d e)) → Parsed names 12 (sign m ∷ symbols) left f
  parsed_call m op symbols more mid further last left first second f is open_is p comma_is q close_is makes = record {
    taken = sign m ∷ sign mark.Open ∷ p.taken ++ (sign mark.Comma ∷ q.taken ++ (sign mark.Close ∷ []));
    expression = Applied op p.expression q.expression;
    split = ap (λ (zs : List Symbol). sign m ∷ zs) (open_is ∙ ap (λ (zs : List Symbol). sign mark.Open ∷ zs)
        (join_split more p.taken mid further (q.taken ++ (sign mark.Close ∷ [])) left mark.Comma p.split comma_is (close_split further q.taken last left mark.Close q.split close_is)));
    says = call m op p.taken q.taken p.expression q.expression is p.says q.says;
    means = makes p.expression q.expression p.means q.means;
  }
