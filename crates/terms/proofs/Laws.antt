-- The theorems, gathered.
use Rattle.std.proofs.Common.{suc}
use Rattle.terms.specs.Theorems.{FlatLaws, CanonLaws, FlatOperationLaws, FlatLeadingLaws, FlatModestLaws, FlatDivisionLaws, SizeLaws, CellLaws}
use Rattle.terms.proofs.Rises as rises
use Rattle.terms.proofs.Canons as canons
use Rattle.terms.proofs.Checks as checks
use Rattle.terms.proofs.Flat as flats
use Rattle.terms.proofs.Sums as sums
use Rattle.terms.proofs.Variables as variables
use Rattle.terms.proofs.Leads as leads
use Rattle.terms.proofs.Modests as modests
use Rattle.terms.proofs.Steps as steps
use Rattle.terms.proofs.CellTrips as cells
use Rattle.terms.proofs.Bounds as bounds

pub flat_laws : FlatLaws
flat_laws = record { rising_unique = rises.rising_unique; flat_rising = flats.flat_rising; flat_unique = flats.flat_unique; flat_is_zero = flats.flat_is_zero; flat_number = flats.flat_number }

pub canon_laws : CanonLaws
canon_laws =
    record {
      Canon-wider = canons.Canon-wider;
      Canon-Depth = canons.Canon-Depth;
      Canon-zero_poly = canons.Canon-zero_poly;
      Canon-constant = canons.Canon-constant;
      Canon-variable = canons.Canon-variable;
      Canon-sum = canons.Canon-sum;
      Canon-product = λ a. canons.Canon-product (suc a);
      Canon-negative = canons.Canon-negative;
      Canon-leading = canons.Canon-leading;
      Canon-without_leading = canons.Canon-without_leading;
      Canon-derivative = canons.Canon-derivative;
      Canon-division_step = canons.Canon-division_step;
      Canon-modest = checks.Canon-modest;
      Canon-term = checks.Canon-term;
      Canon-remainder = checks.Canon-remainder;
    }

pub flat_operation_laws : FlatOperationLaws
flat_operation_laws =
    record {
      flat_constant = variables.flat_constant;
      flat_variable = variables.flat_variable;
      flat_sum = sums.flat_sum;
      flat_negative = sums.flat_negative;
      flat_product = sums.flat_product;
      flat_same = variables.flat_same;
      flat_same_negative = variables.flat_same_negative;
    }

pub flat_leading_laws : FlatLeadingLaws
flat_leading_laws =
    record {
      flat_length = leads.flat_length;
      flat_degree = leads.flat_degree;
      flat_leading = leads.flat_leading;
      flat_without_leading = leads.flat_without_leading;
      flat_derivative = leads.flat_derivative;
    }

pub flat-modest_laws : FlatModestLaws
flat-modest_laws =
    record {
      flat_small = modests.flat_small;
      flat_count = modests.flat_count;
      flat_modest = modests.flat_modest;
      modest_length = modests.modest_length;
      modest_sizes = modests.modest_sizes;
    }

pub flat_division_laws : FlatDivisionLaws
flat_division_laws = record { flat_division_step = steps.flat_division_step; flat_divide = steps.flat_divide; flat_remainder = steps.flat_remainder }

pub size_laws : SizeLaws
size_laws =
    record {
      length_sum = bounds.length_sum;
      length_scaled = bounds.length_scaled;
      length_product = bounds.length_product;
      keys_sum = bounds.keys_sum;
      keys_scaled = bounds.keys_scaled;
      keys_product = bounds.keys_product;
      keys_rising = bounds.keys_rising;
      keys_flat = bounds.keys_flat;
      rising_of_product = bounds.rising_of_product;
      rising_of_step = bounds.rising_of_step;
      sizes_sum = bounds.sizes_sum;
      sizes_scaled = bounds.sizes_scaled;
      sizes_product = bounds.sizes_product;
      sizes_modest_product = bounds.sizes_modest_product;
      sizes_step = bounds.sizes_step;
    }

pub cell_laws : CellLaws
cell_laws =
    record {
      monomial_of_cell = cells.monomial_of_cell;
      cell_of_monomial = cells.cell_of_monomial;
      key_of_cell = cells.key_of_cell;
      monomials_of_cells = cells.monomials_of_cells;
      cells_of_monomials = cells.cells_of_monomials;
      size_of_cell = cells.size_of_cell;
      packed_monomials = cells.packed_monomials;
      packed_unique = cells.packed_unique;
    }
