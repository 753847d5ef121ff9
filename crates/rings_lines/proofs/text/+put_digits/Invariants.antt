-- `rings_lines::text::put_digits` meets its contract. The measure is the number of digits at most.
use Rattle.rings_lines.proofs.text.+put_digits.Given as goal

abbrev pub decreases-put_digits : goal.decreases-put_digits
decreases-put_digits l = l.most
